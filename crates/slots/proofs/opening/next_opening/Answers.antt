-- `slots::opening::next_opening` meets its contract.
use Rattle.slots.proofs.Openings.{opening_period, opening_small, opening_step}
use Rattle.slots.proofs.opening.next_opening.Goals as goal

pub window_end-requires : goal.window_end-requires
window_end-requires c = (search (opening_period), search (opening_small))

pub loop-row-preserved : goal.loop-row-preserved
loop-row-preserved c = search (opening_step)
