-- Checking the table and the record once, at the start of a run, is enough: 'A list of reports is run slot by slot', and at each of its slots the public one-slot answer, which
-- checks both again, is what the run does. That the record has sixteen entries is what its type says.
-- Assumes nothing.
use Rattle.std.specs.Prelude.{Option, None}
use mathlib.Core.Path.{◌≡◌, refl, sym, ap, ap₂, ◌∙◌}
use mathlib.Core.Logic.{⊎_elim}
use mathlib.Core.List.{List}
use Prim.Native.Nat.{ℕ, zero, suc, ◌≤◌, ◌<◌}
use native.Mathlib.Omega.{arith}
use lib.ListN.{length, get_or}
use Rattle.refusal.specs.declared.Refusal.{Refusal}
use Rattle.refusal.specs.Order.{beside}
use Rattle.refusal.proofs.Order.{passes}
use Rattle.table.specs.declared.Row.{Row}
use Rattle.table.specs.declared.Table.{Table}
use Rattle.table.specs.Rows.{used}
use Rattle.slots.specs.declared.Record.{Record}
use Rattle.slots.specs.declared.Stepped.{Stepped}
use Rattle.slots.specs.Sound.{record_refusal}
use Rattle.slots.specs.OneSlot.{what, byte_of, step_of}
use Rattle.slots.specs.Reports.{report_refusal, Outcome, run_of, rec_after}
use Rattle.slots.specs.History.{reported}
use Rattle.slots.specs.Exactly.{AcceptedTo}
use Rattle.slots.specs.Answers.{slot_under, stepped_by}
use Rattle.slots.proofs.SoundRecord.{Sound, table_usable, sound_at, sound_if, none_table, none_sound, sound_none}
use Rattle.slots.proofs.RunFacts.{after_none, after_more, after_sound, run_short, run_next, log_bytes}
use Rattle.slots.proofs.ExactlyWhen.{report_gives}
use Rattle.slots.proofs.ListsWhen.{list_stops}
use Rattle.slots.proofs.HandedBack.{slot_refused}
use Rattle.runs.proofs.Calls.{StepCall, step_from, step_table, step_report, RunCall, run_from, run_table, run_reports, run_outcome, new_log}
use Rattle.runs.proofs.RunAnswers.{Enters, Leaves, run_answers}
use Rattle.runs.proofs.Demand1.{log_new}

-- ---- one slot under no refusal
slot_none : (rs : List Row) (q : Record) (rep : ℕ) → slot_under None rs q rep ≡ record { refusal = None; next = step_of rs q rep; ran = byte_of (what rs q) }
unfolding slot_under beside
slot_none rs q rep = refl

-- ---- the slots of a run from a record that is admitted
module _ (t : Table) (q : Record) (sixteen : length q.jobs ≡ 16) (z : record_refusal t q ≡ None) (reps : List ℕ) where
  abbrev rs : List Row
  rs = used t

  abbrev log : List ℕ
  log = (run_of (used t) q reps).log

  -- the record after n slots is admitted again, and so is the one that the run gives
  pub after_admitted : (n : ℕ) → record_refusal t (rec_after (used t) q reps n) ≡ None
  after_admitted n =
      let p : Record = rec_after rs q reps n in
      let s : Sound rs p = after_sound rs (table_usable t (none_table t q z)) q (sound_at rs q sixteen (none_sound t q z)) reps n in
      sound_none t p (none_table t q z) (sound_if rs p s)

  pub next_admitted : record_refusal t (run_of (used t) q reps).next ≡ None
  next_admitted = ap (record_refusal t) (run_next rs q reps) ∙ after_admitted (length log)

  -- so only a slot's report can be refused
  by_report_lem : (n : ℕ) (f : Option Refusal) → report_refusal (what rs (rec_after rs q reps n)) (reported reps n) ≡ f
      → stepped_by t (rec_after rs q reps n) (reported reps n) ≡ slot_under f rs (rec_after rs q reps n) (reported reps n)
  unfolding stepped_by
  by_report_lem n f e =
      let p : Record = rec_after rs q reps n in
      ap (λ (g : Option Refusal). slot_under g rs p (reported reps n)) (sym (passes (record_refusal t p) (report_refusal (what rs p) (reported reps n)) (after_admitted n)) ∙ e)

  -- each slot of the run: its record, and its byte of the log
  pub each_slot_steps : (n : ℕ) → n < length (run_of (used t) q reps).log
      → stepped_by t (rec_after (used t) q reps n) (reported reps n)
      ≡ record { refusal = None; next = rec_after (used t) q reps (suc n); ran = get_or (run_of (used t) q reps).log n 0 }
  unfolding AcceptedTo
  each_slot_steps n l =
      by_report_lem n None ((report_gives (what rs (rec_after rs q reps n)) (reported reps n) None).1 ((list_stops rs q reps).accepted n l))
      ∙ slot_none rs (rec_after rs q reps n) (reported reps n)
      ∙ ap₂ (λ (p : Record) (b : ℕ). record { refusal = None; next = p; ran = b }) (sym (after_more rs q reps n)) (sym (log_bytes rs q reps n l))

  -- the slot at which it stops before its reports end: its refusal
  pub stop_steps : length (run_of (used t) q reps).log < length reps
      → stepped_by t (rec_after (used t) q reps (length (run_of (used t) q reps).log)) (reported reps (length (run_of (used t) q reps).log))
      ≡ record { refusal = (run_of (used t) q reps).refusal; next = (run_of (used t) q reps).next; ran = 0 }
  stop_steps l =
      let f : Option Refusal = (run_of rs q reps).refusal in
      let p : Record = rec_after rs q reps (length log) in
      ⊎_elim (λ e. absurd (omega (arith, e.1)))
      (λ e.
      by_report_lem (length log) f ((report_gives (what rs p) (reported reps (length log)) f).1 e.2)
      ∙ slot_refused f e.1 rs p (reported reps (length log))
      ∙ ap (λ (p : Record). record { refusal = f; next = p; ran = 0 }) (sym (run_next rs q reps)))
      (list_stops rs q reps).stop

-- ---- through the contracts: calls of `Record::step`, one for each slot of a call of `Record::run` and one for the report that stops it, each from the record that the one before answered, with its table and reports
pub record Stepwise (c : RunCall) (steps : ℕ → StepCall) : Type 0 where
  pub begins : step_from (steps 0) ≡ run_from c
  pub goes : (n : ℕ) → n < c.answer.slots → step_from (steps (suc n)) ≡ (steps n).answer.next
  pub tables : (n : ℕ) → n ≤ c.answer.slots → n < length (run_reports c) → step_table (steps n) ≡ run_table c
  pub reports : (n : ℕ) → n ≤ c.answer.slots → n < length (run_reports c) → step_report (steps n) ≡ reported (run_reports c) n

module _ (c : RunCall) (steps : ℕ → StepCall) (w : Stepwise c steps) (sixteen : length (run_from c).jobs ≡ 16) (enters : Enters c) where
  abbrev o : Outcome
  o = run_outcome c

  abbrev t : Table
  t = run_table c

  abbrev at : ℕ → Record
  at n = rec_after (used (run_table c)) (run_from c) (run_reports c) n

  gives : Leaves c o
  gives = run_answers c enters

  short : length o.log ≤ length (run_reports c)
  short = run_short (used t) (run_from c) (run_reports c)

  answers : (n : ℕ) → n ≤ c.answer.slots → n < length (run_reports c) → step_from (steps n) ≡ at n → (steps n).answer ≡ stepped_by t (at n) (reported (run_reports c) n)
  answers n l u e =
      (steps n).meets
      ∙ ap (λ (u : Table). stepped_by u (step_from (steps n)) (step_report (steps n))) (w.tables n l u)
      ∙ ap₂ (stepped_by t) e (w.reports n l u)

  from_at : (n : ℕ) → n ≤ length o.log → step_from (steps n) ≡ at n
  from_at zero l = w.begins ∙ sym (after_none (used t) (run_from c) (run_reports c))
  from_at (suc n) l =
      w.goes n (omega (arith, gives.count))
      ∙ ap (λ (s : Stepped). s.next)
      (answers n (omega (arith, gives.count)) (omega (arith, short)) (from_at n (omega arith)) ∙ each_slot_steps t (run_from c) sixteen enters.admitted (run_reports c) n (omega arith))

  -- the run's slots are the steps', byte for byte
  pub steps_run : (n : ℕ) → n < c.answer.slots → ((steps n).answer.refusal ≡ None) × ((steps n).answer.ran ≡ get_or (new_log c) n 0)
  steps_run n l =
      let u : n < length o.log = omega (arith, gives.count) in
      let e : (steps n).answer ≡ record { refusal = None; next = at (suc n); ran = get_or o.log n 0 }
      = answers n (omega arith) (omega (arith, short)) (from_at n (omega arith)) ∙ each_slot_steps t (run_from c) sixteen enters.admitted (run_reports c) n u in (
        ap (λ (s : Stepped). s.refusal) e,
        ap (λ (s : Stepped). s.ran) e ∙ log_bytes (used t) (run_from c) (run_reports c) n u ∙ sym (log_new c n l),
      )

  -- they leave the run's record
  pub steps_next : step_from (steps c.answer.slots) ≡ c.answer.next
  steps_next =
      from_at c.answer.slots (omega (arith, gives.count))
      ∙ ap at gives.count
      ∙ sym (run_next (used t) (run_from c) (run_reports c))
      ∙ sym gives.after

  -- and the step after them is refused as the run is, where that stops before its reports end
  pub steps_stop : c.answer.slots < length (run_reports c) → (steps c.answer.slots).answer.refusal ≡ c.answer.refusal
  steps_stop l =
      ap (λ (n : ℕ). (steps n).answer.refusal) gives.count
      ∙ ap (λ (s : Stepped). s.refusal)
      (answers (length o.log) (omega (arith, gives.count)) (omega (arith, gives.count)) (from_at (length o.log) (omega arith)) ∙ stop_steps t (run_from c) sixteen enters.admitted (run_reports c) (omega (arith, gives.count)))
      ∙ sym gives.stop
