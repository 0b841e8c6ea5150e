-- `slots::buffer::hold_row`. The loop's invariant: the jobs with windows before `first` have reserved.
use Prim.Native.Nat.{◌-◌}
use Rattle.slots.proofs.HoldingRow.{HoldingRow}
use Rattle.slots.proofs.buffer.hold_row.Given as goal

abbrev pub invariant-loop-first : goal.invariant-loop-first
invariant-loop-first l = HoldingRow l.r l.row l.clock l.units l.until l.fn.out l.out l.first

abbrev pub decreases-loop-first : goal.decreases-loop-first
decreases-loop-first l = l.until - l.first
