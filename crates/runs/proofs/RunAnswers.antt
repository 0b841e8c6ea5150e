-- What a call of `Record::run` answers: the run of its reports, where none of 1 to 9 is given. An acceptance says that none is, and so does 10 or 11.
-- Assumes nothing.
use Rattle.std.specs.Prelude.{Option, Some, None}
use mathlib.Core.Path.{◌≡◌, refl, sym, ap, ◌∙◌, subst}
use mathlib.Core.Logic.{◌≢◌, ◌⊎◌, inl, inr, ⊎_elim}
use mathlib.Core.List.{List, ◌++◌}
use Prim.Native.Nat.{ℕ, ◌≤◌, ◌<◌}
use native.Mathlib.Omega.{arith}
use lib.ListN.{length, take, drop}
use lib.Seq.{take_at}
use Rattle.refusal.specs.declared.Refusal.{Refusal}
use Rattle.refusal.specs.declared.Refusal.TheVariants.{Room}
use Rattle.refusal.specs.Numbers.{number_told}
use Rattle.table.specs.declared.Table.{Table}
use Rattle.table.specs.Rows.{used, cycle_of}
use Rattle.slots.specs.declared.Record.{Record}
use Rattle.slots.specs.declared.Ran.{Ran}
use Rattle.slots.specs.Sound.{record_refusal}
use Rattle.slots.specs.Reports.{Outcome, run_of}
use Rattle.slots.specs.Answers.{outcome_of, ran_by, log_after}
use Rattle.slots.specs.Exactly.{RecordGives, RunGivesAt, at_record, at_room, at_slot}
use Rattle.slots.proofs.AnswerCases.{has_room, outcome_run}
use Rattle.slots.proofs.ExactlyWhen.{record_gives}
use Rattle.slots.proofs.HandedBack.{ByReport}
use Rattle.runs.proofs.Calls.{RunCall, run_from, run_table, run_reports, run_outcome, old_log, new_log, old_buffer}
use Rattle.runs.proofs.Demand1.{run_gives}

-- ---- 10 or 11 is no acceptance, and no refusal at a record
number_report : (f : Option Refusal) → ByReport f → 9 < number_told f
number_report f by = ⊎_elim (λ r. omega (arith, ap number_told r)) (λ r. omega (arith, ap number_told r)) by

pub report_told : (f : Option Refusal) → ByReport f → f ≢ None
report_told f by z = omega (arith, number_report f by, ap number_told z)

not_record : (t : Table) (q : Record) (f : Option Refusal) → ByReport f → RecordGives t q f → ⊥
unfolding RecordGives
not_record t q f (inl r) g = subst (RecordGives t q) r g
not_record t q f (inr r) g = subst (RecordGives t q) r g

-- what a run leaves of the outcome o: the refusal that stopped it, the slots accepted, the record after them, and the lent log, which held `old`
pub record Left (o : Outcome) (old : List ℕ) (refusal : Option Refusal) (slots : ℕ) (next : Record) (log : List ℕ) : Type 0 where
  pub stop : refusal ≡ o.refusal
  pub count : slots ≡ length o.log
  pub after : next ≡ o.next
  pub written : log ≡ o.log ++ drop slots old

-- ---- the call
module _ (c : RunCall) where
  abbrev t : Table
  t = run_table c

  abbrev q : Record
  q = run_from c

  abbrev reps : List ℕ
  reps = run_reports c

  abbrev old : List ℕ
  old = old_log c

  abbrev kept : List ℕ
  kept = old_buffer c

  -- none of 1 to 9 is given
  pub record Enters : Type 0 where
    pub admitted : record_refusal (run_table c) (run_from c) ≡ None
    pub room : length (run_reports c) ≤ length (old_log c)
    pub buffer : cycle_of (used (run_table c)) ≤ length (old_buffer c)

  -- the answer and the log are those of the outcome o
  abbrev pub Leaves : Outcome → Type 0
  Leaves o = Left o (old_log c) c.answer.refusal c.answer.slots c.answer.next (new_log c)

  -- then the answer and the log are those of the run
  pub run_answers : Enters → Leaves (run_outcome c)
  unfolding ran_by log_after
  run_answers g =
      let o : Outcome = run_outcome c in
      let e : outcome_of t q reps old kept ≡ o = outcome_run t q reps old kept g.admitted (has_room t reps old kept g.room g.buffer) in
      let count : c.answer.slots ≡ length o.log = ap (λ (r : Ran). r.slots) c.meets.0 ∙ ap (λ (p : Outcome). length p.log) e in
      record {
        stop = ap (λ (r : Ran). r.refusal) c.meets.0 ∙ ap (λ (p : Outcome). p.refusal) e;
        count = count;
        after = ap (λ (r : Ran). r.next) c.meets.0 ∙ ap (λ (p : Outcome). p.next) e;
        written = c.meets.1.0 ∙ ap (λ (p : Outcome). p.log ++ drop (length p.log) old) e ∙ ap (λ (n : ℕ). o.log ++ drop n old) (sym count);
      }

  pub run_same : {t : Table} {q : Record} {reps : List ℕ} → run_table c ≡ t → run_from c ≡ q → run_reports c ≡ reps → run_outcome c ≡ run_of (used t) q reps
  run_same {t} {q} a b d =
      ap (λ (u : Table). run_of (used u) (run_from c) (run_reports c)) a
      ∙ ap (λ (p : Record). run_of (used t) p (run_reports c)) b
      ∙ ap (run_of (used t) q) d

  -- the log's first bytes, one for each slot accepted, are the run's
  pub log_bytes : Enters → take c.answer.slots (new_log c) ≡ (run_outcome c).log
  log_bytes g =
      let r : Leaves (run_outcome c) = run_answers g in
      ap (take c.answer.slots) r.written ∙ take_at (run_outcome c).log (drop c.answer.slots old) c.answer.slots (sym r.count)

  -- a log or a buffer that is too short takes no slot
  pub no_room : record_refusal (run_table c) (run_from c) ≡ None → (length (old_log c) < length (run_reports c)) ⊎ (length (old_buffer c) < cycle_of (used (run_table c)))
      → c.answer.slots ≡ 0
  no_room z l = ((run_gives c (Some Room) 0).1 (at_room ((record_gives t q None).0 z) l refl refl)).1

  -- neither a refusal at the record nor one for room
  enters : (RecordGives t q c.answer.refusal → (c.answer.refusal ≡ None → ⊥) → c.answer.slots ≡ 0 → ⊥) → (c.answer.refusal ≡ (Some Room) → c.answer.slots ≡ 0 → ⊥) → Enters
  enters not_there no_room = go ((run_gives c c.answer.refusal c.answer.slots).0 (refl, refl))
    where
      go : RunGivesAt t q reps old kept c.answer.refusal c.answer.slots → Enters
      go (at_record g h e) = absurd (not_there g h e)
      go (at_room g l d e) = absurd (no_room d e)
      go (at_slot g l u s) = record { admitted = (record_gives t q None).1 g; room = l; buffer = u }

  -- an accepted list, one that a report stops, and one with a slot accepted
  pub accepted_enters : c.answer.refusal ≡ None → Enters
  accepted_enters z = enters (λ g h e. h z) (λ d e. omega (arith, ap number_told z, ap number_told d))

  pub stopped_enters : ByReport c.answer.refusal → Enters
  stopped_enters by = enters (λ g h e. not_record t q c.answer.refusal by g) (λ d e. omega (arith, number_report c.answer.refusal by, ap number_told d))

  pub slot_enters : (n : ℕ) → n < c.answer.slots → Enters
  slot_enters n l = enters (λ g h e. omega arith) (λ d e. omega arith)
