-- `slots::buffer::hold_rows`. The loop's invariant: the first i rows have reserved.
use Rattle.slots.proofs.HeldRows.{HoldingRows}
use Rattle.slots.proofs.buffer.hold_rows.Given as goal

abbrev pub invariant-loop-i : goal.invariant-loop-i
invariant-loop-i l = HoldingRows l.t (record { clock = l.clock; jobs = l.jobs }) l.until l.from l.initial.out l.out l.i
