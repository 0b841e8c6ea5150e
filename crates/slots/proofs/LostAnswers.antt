-- The answers of lost units, from what the code has found on each way out.
-- Assumes nothing.
use Rattle.std.specs.Prelude.{Option, Some, None, Ok, Err, Result}
use mathlib.Core.Path.{◌≡◌, refl, ap, ◌∙◌, sym}
use mathlib.Core.List.{List}
use Prim.Native.Nat.{ℕ, ◌≤◌}
use native.Mathlib.Omega.{arith}
use lib.ListN.{length}
use Rattle.refusal.specs.declared.Refusal.{Refusal}
use Rattle.refusal.specs.Order.{or_else, answer}
use Rattle.refusal.proofs.Order.{passes, answer_ok, answer_err}
use Rattle.table.specs.declared.Table.{Table}
use Rattle.table.specs.Rows.{used}
use Rattle.reserve.proofs.Verdict.{table_accepted}
use Rattle.slots.specs.declared.Record.{Record}
use Rattle.slots.specs.declared.Started.{Started}
use Rattle.slots.specs.Records.{started_for}
use Rattle.slots.specs.Sound.{record_refusal}
use Rattle.slots.specs.Reports.{run_of}
use Rattle.slots.specs.History.{logged, reported}
use Rattle.slots.specs.LostUnits.{lost_units, lost_refusal, lost_from, lost_fresh}
use Rattle.slots.specs.Turns.{Steady, RunLeaves, lost_by}
use Rattle.slots.proofs.SoundRecord.{table_usable, sound_none}
use Rattle.slots.proofs.LostSum.{lost_sum}
use Rattle.slots.proofs.Settled.{stands_sound}

abbrev all_lost : Table → Record → List ℕ → ℕ
all_lost t q reps = lost_units (used t) q (logged (run_of (used t) q reps).log) (reported reps) (length reps)

pub lost_refused : (t : Table) (q : Record) (f : Refusal) → record_refusal t q ≡ Some f → (reps : List ℕ) → Err f ≡ lost_from t q reps
unfolding lost_from lost_refusal or_else
lost_refused t q f e reps =
    answer_err (lost_refusal t q reps) (all_lost t q reps) f
    (ap (λ (g : Option Refusal). or_else g (run_of (used t) q reps).refusal) e)

module _ {t : Table} {cycle : ℕ} {q : Record} (st : Steady t cycle q) where
  -- the cycle is no longer than the buffer
  pub lost_room : cycle ≤ 4096
  lost_room = omega (arith, st.is_cycle, (table_accepted t st.table).cycle)

  module _ (sixteen : length q.jobs ≡ 16) (reps : List ℕ) where
    stops : lost_refusal t q reps ≡ (run_of (used t) q reps).refusal
    unfolding lost_refusal
    stops = sym (passes (record_refusal t q) (run_of (used t) q reps).refusal (sound_none t q st.table st.sound))

    module _ (f : Option Refusal) (old new : List ℕ) (n : ℕ) (next : Record) (g : RunLeaves (run_of (used t) q reps) old f n next new) where
      -- what the slots have lost one by one is the sum over the jobs
      pub lost_done : (units : ℕ) → (f ≡ None → units ≡ lost_by (used t) q reps) → f ≡ None → Ok units ≡ lost_from t q reps
      unfolding lost_from
      lost_done units h z =
          let run_none : (run_of (used t) q reps).refusal ≡ None = sym g.stop ∙ z in
          ap Ok (h z ∙ lost_sum (used t) (table_usable t st.table) q (stands_sound st sixteen) reps run_none)
          ∙ answer_ok (lost_refusal t q reps) (all_lost t q reps) (stops ∙ run_none)

      pub lost_stopped : (stop : Refusal) → f ≡ Some stop → Err stop ≡ lost_from t q reps
      unfolding lost_from
      lost_stopped stop z = answer_err (lost_refusal t q reps) (all_lost t q reps) stop (stops ∙ sym g.stop ∙ z)

      -- either way
      pub lost_told : (units : ℕ) → (f ≡ None → units ≡ lost_by (used t) q reps) → (r : Result ℕ Refusal) → r ≡ answer f units → r ≡ lost_from t q reps
      lost_told units h r e = e ∙ go f refl
        where
          go : (o : Option Refusal) → f ≡ o → answer f units ≡ lost_from t q reps
          go None z = rw z (lost_done units h z)
          go (Some stop) z = rw z (lost_stopped stop z)

pub lost_start : (t : Table) (reps : List ℕ) (s : Started) (r : Result ℕ Refusal) → s ≡ started_for t → r ≡ lost_from t s.start reps → r ≡ lost_fresh t reps
unfolding lost_fresh started_for
lost_start t reps s r h g = g ∙ ap (λ (x : Started). lost_from t x.start reps) h
