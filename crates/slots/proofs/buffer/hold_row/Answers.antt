-- `slots::buffer::hold_row` meets its contract.
use native.Mathlib.Omega.{arith}
use Rattle.slots.proofs.HoldingRow.{able_period, able_fits, able_first, row_start, row_fits, row_room, row_nearer, row_step, row_end}
use Rattle.slots.proofs.buffer.hold_row.Goals as goal

pub window_end-end-requires : goal.window_end-end-requires
window_end-end-requires c = (search (able_period), search (able_fits))

pub hold-requires : goal.hold-requires
hold-requires c = able_first c.requires _ c.window_end-end.ensures

pub nonzero_div-first-step : goal.nonzero_div-first-step
nonzero_div-first-step c = search (able_period)

pub loop-first-init : goal.loop-first-init
loop-first-init c = search (row_start)

pub overflow_add-first : goal.overflow_add-first
overflow_add-first c = search (row_fits)

pub hold-requires-in-loop-first : goal.hold-requires-in-loop-first
hold-requires-in-loop-first c = row_room c.loop-first.invariant c.loop-first-test.true

pub loop-first-smaller : goal.loop-first-smaller
loop-first-smaller c = search (row_nearer)

pub loop-first-preserved : goal.loop-first-preserved
loop-first-preserved c = search (row_step)

pub returns-2 : goal.returns-2
returns-2 c = row_end (row_step c.loop-first.invariant c.loop-first-test.true c.hold-in-loop-first.ensures) (omega arith)
