-- `slots::buffer::hold` meets its contract.
use Rattle.slots.proofs.Holding.{holding_start, holding_step, holding_met}
use Rattle.slots.proofs.buffer.hold.Goals as goal

pub loop-s-init : goal.loop-s-init
loop-s-init c = search (holding_start)

pub returns-then-left-eq0 : goal.returns-then-left-eq0
returns-then-left-eq0 c = search (holding_met)

pub loop-s-preserved : goal.loop-s-preserved
loop-s-preserved c = search (holding_step)
