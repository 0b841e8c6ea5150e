-- The run of a list of reports is a course of what its log tells, up to its stop where a report is refused.
-- Assumes nothing.
use mathlib.Core.Path.{◌≡◌, refl, ◌∙◌}
use mathlib.Core.List.{List}
use Prim.Native.Nat.{ℕ, ◌≤◌}
use lib.ListN.{length}
use Rattle.table.specs.declared.Row.{Row}
use Rattle.slots.specs.declared.Record.{Record}
use Rattle.slots.specs.OneSlot.{what, step_by, step_of}
use Rattle.slots.specs.Reports.{run_of, rec_after}
use Rattle.slots.specs.History.{logged, reported}
use Rattle.slots.specs.Course.{Course}
use Rattle.slots.proofs.StaysSound.{what_allowed}
use Rattle.slots.proofs.RunFacts.{after_none, after_more, log_tells}

step_is : (rs : List Row) (q : Record) (rep : ℕ) → step_of rs q rep ≡ step_by rs q (what rs q) rep
unfolding step_of
step_is rs q rep = refl

pub run_course : (rs : List Row) → length rs ≤ 16 → (q : Record) (reps : List ℕ)
    → Course rs q (length (run_of rs q reps).log) (rec_after rs q reps) (logged (run_of rs q reps).log) (reported reps)
run_course rs few q reps = record {
  begins = after_none rs q reps;
  allowed = λ t l. rw (log_tells rs few q reps t l) (what_allowed rs (rec_after rs q reps t));
  goes = λ t l. rw (log_tells rs few q reps t l) (after_more rs q reps t ∙ step_is rs (rec_after rs q reps t) (reported reps t));
}
