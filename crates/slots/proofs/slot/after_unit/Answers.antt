-- `slots::slot::after_unit` meets its contract.
use Rattle.slots.proofs.UnitMoves.{unit_moved}
use Rattle.slots.proofs.slot.after_unit.Goals as goal

pub returns : goal.returns
returns c = search (unit_moved)
