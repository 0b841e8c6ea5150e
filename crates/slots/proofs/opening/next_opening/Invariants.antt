-- `slots::opening::next_opening`. The loop's invariant: no window of the rows so far opens before `opens`.
use Rattle.slots.proofs.Openings.{Opening}
use Rattle.slots.proofs.opening.next_opening.Given as goal

abbrev pub invariant-loop-row : goal.invariant-loop-row
invariant-loop-row l = Opening l.fn.t l.cycle l.s l.row-items l.opens l.row-index
