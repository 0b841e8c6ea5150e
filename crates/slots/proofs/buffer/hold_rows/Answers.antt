-- `slots::buffer::hold_rows` meets its contract.
use Rattle.slots.proofs.HeldRows.{rows_start, rows_able, rows_step, rows_end}
use Rattle.slots.proofs.buffer.hold_rows.Goals as goal

pub loop-i-init : goal.loop-i-init
loop-i-init c = search (rows_start)

pub hold_row-requires : goal.hold_row-requires
hold_row-requires c = rows_able c.loop-i.invariant c.loop-i-test.true

pub loop-i-preserved : goal.loop-i-preserved
loop-i-preserved c = search (rows_step)

pub returns : goal.returns
returns c = rows_end c.loop-i.invariant c.loop-i-test.false
