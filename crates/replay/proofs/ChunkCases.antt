-- One chunk as the code meets it: no number overflows, and what the library answers is what the definitions say.
-- Assumes nothing.
use Rattle.std.specs.Result.{result_unwrap_or}
use Rattle.std.specs.Prelude.{Option, None, Some, Result}
use mathlib.Core.Path.{◌≡◌, refl, sym, ap, ap₂, ◌∙◌, subst}
use mathlib.Core.Logic.{⊎_elim}
use mathlib.Core.Bool.{true, false}
use mathlib.Core.List.{List, ◌++◌}
use Prim.Native.Nat.{ℕ, ◌+◌, ◌-◌, ◌^◌, ◌≤◌, ◌<◌}
use native.Mathlib.Omega.{arith}
use lib.ListN.{length, take, drop, length-append}
use lib.Seq.{take_at}
use Rattle.refusal.specs.declared.Refusal.{Refusal}
use Rattle.refusal.specs.Order.{accepted, beside}
use Rattle.refusal.proofs.Order.{beside_none}
use Rattle.table.specs.declared.Table.{Table}
use Rattle.table.specs.Rows.{used}
use Rattle.rule.proofs.Tests.{split}
use Rattle.reserve.specs.Check.{table_refusal}
use Rattle.reserve.proofs.Verdict.{table_accepted}
use Rattle.slots.specs.declared.Record.{Record}
use Rattle.slots.specs.declared.Ran.{Ran}
use Rattle.slots.specs.Records.{fresh_record}
use Rattle.slots.specs.Reports.{Outcome, run_of}
use Rattle.slots.specs.Answers.{outcome_of, ran_by, log_after}
use Rattle.slots.specs.Answers as answers
use Rattle.slots.specs.LostUnits.{lost_from, lost_fresh}
use Rattle.slots.specs.Turns.{lost_by}
use Rattle.slots.proofs.SoundRecord.{Sound, table_usable}
use Rattle.slots.proofs.RunFacts.{run_short}
use Rattle.slots.proofs.LostBound.{lost_most, open_few}
use Rattle.slots.proofs.AnswerCases.{has_room, outcome_run}
use Rattle.replay.specs.declared.Progress.{Progress}
use Rattle.replay.specs.Chunks.{replay_of, moved_on, onward_of, chunk_log, log_onward}
use Rattle.replay.specs.Lines.{log_lines, chunk_lines}
use Rattle.replay.specs.Turns.{Laid, Replayed}
use Rattle.replay.proofs.Laying.{laid_is}
use Rattle.replay.proofs.Chunks.{admitted, units_by, starts_sound, replay_sound}

-- ---- the figures of a list of reports are few enough to be counted
beside_most : (f : Option Refusal) (x : ℕ) → beside f x ≤ x
unfolding beside
beside_most f x = ⊎_elim (λ (h : accepted f ≡ true). rw h (omega arith)) (λ (h : accepted f ≡ false). rw h (omega arith)) (split (accepted f))

module _ (t : Table) (z : table_refusal t ≡ None) where
  units_most : (q : Record) → Sound (used t) q → (reps : List ℕ) → result_unwrap_or (lost_from t q reps) 0 ≤ length reps + 65536
  units_most q s reps =
      omega (
        arith,
        units_by t z q s reps,
        beside_most (run_of (used t) q reps).refusal (lost_by (used t) q reps),
        lost_most (used t) (table_usable t z) q s reps,
        open_few (used t) (table_usable t z) q s (table_accepted t z).cycle,
      )

  replay_few : (reps : List ℕ) → ((replay_of t reps).slots ≤ length reps) × ((replay_of t reps).lost ≤ length reps + 65536)
  unfolding replay_of lost_fresh
  replay_few reps = (run_short (used t) (fresh_record t) reps, units_most (fresh_record t) (starts_sound t z) reps)

  module _ (p : Progress) (g : Replayed t (2 ^ 60) p) where
    stands : Sound (used t) p.next
    stands = subst (λ (r : Progress). Sound (used t) r.next) (sym g.gives) (replay_sound t z g.reports)

    pub few_slots : p.slots ≤ 2 ^ 60
    few_slots = omega (arith, ap (λ (r : Progress). r.slots) g.gives, (replay_few g.reports).0, g.few)

    few_lost : p.lost ≤ 2 ^ 60 + 65536
    few_lost = omega (arith, ap (λ (r : Progress). r.lost) g.gives, (replay_few g.reports).1, g.few)

    -- the buffer is as long as the longest cycle
    module _ (reps old kept : List ℕ) (room : length reps ≤ length old) (long : length kept ≡ 4096) where
      is_run : outcome_of t p.next reps old kept ≡ run_of (used t) p.next reps
      is_run = outcome_run t p.next reps old kept (admitted t z p.next stands) (has_room t reps old kept room (omega (arith, (table_accepted t z).cycle)))

      module _ (ran : Ran) (e : ran ≡ ran_by t p.next reps old kept) (r : Result ℕ Refusal) (units : r ≡ lost_from t p.next reps) (lost : ℕ) (told : lost ≡ result_unwrap_or r 0) where
        h : lost ≡ result_unwrap_or (lost_from t p.next reps) 0
        h = told ∙ ap (λ (x : Result ℕ Refusal). result_unwrap_or x 0) units

        tells : ran ≡ answers.told (run_of (used t) p.next reps)
        unfolding ran_by
        tells = e ∙ ap (λ (o : Outcome). answers.told o) is_run

        pub slots_room : length reps ≤ 1024 → p.slots + ran.slots < 2 ^ 64
        slots_room l = omega (arith, few_slots, ap (λ (r : Ran). r.slots) tells, run_short (used t) p.next reps)

        pub lost_room : length reps ≤ 1024 → p.lost + lost < 2 ^ 64
        lost_room l = omega (arith, few_lost, h, units_most p.next stands reps)

        pub onward_none : p.refusal ≡ None → (r : Progress) → r ≡ moved_on p ran lost → r ≡ onward_of t p reps
        unfolding onward_of
        onward_none d r f = f ∙ ap₂ (λ (x : Ran) (y : ℕ). moved_on p x y) tells h ∙ rw d refl

      pub log_none : p.refusal ≡ None → (new : List ℕ) → new ≡ log_after t p.next reps old kept → new ≡ log_onward t p reps old
      unfolding log_after log_onward chunk_log
      log_none d new f = f ∙ ap (λ (o : Outcome). o.log ++ drop (length o.log) old) is_run ∙ rw d refl

-- ---- the chunk's lines: the slots accepted are the log's first bytes
module _ (t : Table) (p : Progress) (reps : List ℕ) where
  counted : (onward_of t p reps).slots ≡ p.slots + length (chunk_log t p reps)
  unfolding onward_of chunk_log moved_on
  counted =
      ⊎_elim (λ (h : accepted p.refusal ≡ true). rw h refl) (λ (h : accepted p.refusal ≡ false). rw h (omega arith)) (split (accepted p.refusal))

  short : length (chunk_log t p reps) ≤ length reps
  unfolding chunk_log
  short =
      ⊎_elim (λ (h : accepted p.refusal ≡ true). rw h (run_short (used t) p.next reps)) (λ (h : accepted p.refusal ≡ false). rw h (omega arith))
      (split (accepted p.refusal))

  module _ (after : Progress) (e : after ≡ onward_of t p reps) where
    is_count : after.slots - p.slots ≡ length (chunk_log t p reps)
    is_count = omega (arith, ap (λ (r : Progress). r.slots) e, counted)

    pub slots_rise : p.slots ≤ after.slots
    slots_rise = omega (arith, ap (λ (r : Progress). r.slots) e, counted)

    module _ (old log : List ℕ) (g : log ≡ log_onward t p reps old) where
      pub log_is : take (after.slots - p.slots) log ≡ chunk_log t p reps
      unfolding log_onward
      log_is =
          ap (λ (l : List ℕ). take (after.slots - p.slots) l) g
          ∙ take_at (chunk_log t p reps) (drop (length (chunk_log t p reps)) old) (after.slots - p.slots) (sym is_count)

      pub log_room : length reps ≤ length old → after.slots - p.slots ≤ length log
      unfolding log_onward
      log_room l = omega (arith, is_count, ap length g, length-append (chunk_log t p reps) (drop (length (chunk_log t p reps)) old))

      pub lines_count : length (take (after.slots - p.slots) log) ≡ after.slots - p.slots
      lines_count = ap length log_is ∙ sym is_count

      pub lines_laid : {buffer new : List ℕ} {end : ℕ} → Laid buffer 0 (log_lines p.slots (take (after.slots - p.slots) log)) new end → Laid buffer 0 (chunk_lines t p reps) new end
      unfolding chunk_lines
      lines_laid f = laid_is (ap (log_lines p.slots) log_is) f

-- ---- after a refusal nothing moves
module _ (t : Table) (p : Progress) (f : Refusal) (d : p.refusal ≡ Some f) (reps : List ℕ) where
  pub onward_refused : p ≡ onward_of t p reps
  unfolding onward_of
  onward_refused = rw d refl

  pub log_refused : (old : List ℕ) → old ≡ log_onward t p reps old
  unfolding log_onward chunk_log
  log_refused old = rw d refl

-- ---- moved on: each part apart
module _ (p : Progress) (ran : Ran) (units : ℕ) (r : Progress) where
  moved_parts : r.refusal ≡ ran.refusal → r.slots ≡ p.slots + ran.slots → r.lost ≡ beside ran.refusal (p.lost + units) → r.next ≡ ran.next → r ≡ moved_on p ran units
  unfolding moved_on
  moved_parts a b d e = λ i. record { refusal = a i; slots = b i; lost = d i; next = e i }

  pub moved_none : ran.refusal ≡ None → r.refusal ≡ None → r.slots ≡ p.slots + ran.slots → r.lost ≡ p.lost + units → r.next ≡ ran.next → r ≡ moved_on p ran units
  moved_none z a b d e = moved_parts (a ∙ sym z) b (d ∙ beside_none ran.refusal (p.lost + units) z) e

  pub moved_refused : (f : Refusal) → ran.refusal ≡ Some f → r.refusal ≡ Some f → r.slots ≡ p.slots + ran.slots → r.lost ≡ 0 → r.next ≡ ran.next → r ≡ moved_on p ran units
  unfolding beside
  moved_refused f z a b d e = moved_parts (a ∙ sym z) b (d ∙ rw z refl) e
