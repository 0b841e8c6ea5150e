-- A list of reports, run slot by slot.
-- Assumes nothing: these are definitions.
use Rattle.std.specs.Prelude.{Option, None, ℕ, zero, suc, Bool, true, false, not, cond, ◌&&◌, List, [], ◌∷◌, ltb}
use Rattle.refusal.specs.declared.Refusal.{Refusal}
use Rattle.refusal.specs.declared.Refusal.TheVariants.{Report, Stray}
use Rattle.refusal.specs.Order.{accepted, given, or_else}
use Rattle.table.specs.declared.Row.{Row}
use Rattle.slots.specs.declared.Record.{Record}
use Rattle.slots.specs.OneSlot.{Work, idle, primary, alternate, what, byte_of, step_of}
use Rattle.slots.specs.History.{reported}

abbrev pub ran_primary : Work → Bool
ran_primary idle = false
ran_primary (primary k) = true
ran_primary (alternate k) = false

-- 10: 'a report is over 2', before 11: 'report 1 or 2 for a slot that ran no primary'
unfoldable pub report_refusal : Work → ℕ → Option Refusal
report_refusal w rep = or_else (given (ltb 2 rep) Report) (given (ltb 0 rep && not (ran_primary w)) Stray)

-- what a run gives: the refusal that stopped it, the record after the accepted slots, and their log bytes
pub record Outcome : Type 0 where
  pub refusal : Option Refusal
  pub next : Record
  pub log : List ℕ

-- stopped, with no slot accepted
abbrev pub stopped : Option Refusal → Record → Outcome
stopped f q = record { refusal = f; next = q; log = [] }

-- one slot accepted before
abbrev pub onto : ℕ → Outcome → Outcome
onto b o = record { refusal = o.refusal; next = o.next; log = b ∷ o.log }

-- 'A list of reports is run slot by slot, past cycle ends if it is long.'
unfoldable pub run_of : List Row → Record → List ℕ → Outcome
run_of rs q [] = stopped None q
run_of rs q (rep ∷ reps) =
    cond (accepted (report_refusal (what rs q) rep))
    (onto (byte_of (what rs q)) (run_of rs (step_of rs q rep) reps))
    (stopped (report_refusal (what rs q) rep) q)

-- the record after t slots, each of which has its report of the list
unfoldable pub rec_after : List Row → Record → List ℕ → ℕ → Record
rec_after rs q reps zero = q
rec_after rs q reps (suc t) = step_of rs (rec_after rs q reps t) (reported reps t)
