-- `slots::entry::tried` meets its contract.
use Rattle.std.proofs.Common.{arith}
use Rattle.std.proofs.lemmas.Grind.{common_steps}
use Rattle.slots.specs.OneSlot.{on_primary}
use Rattle.slots.proofs.entry.tried.Goals as goal

pub returns-in-0 : goal.returns-in-0
unfolding on_primary
returns-in-0 c = grind (arith, common_steps)

pub returns-in-0-2 : goal.returns-in-0-2
unfolding on_primary
returns-in-0-2 c = grind (arith, common_steps)

pub returns-in-1 : goal.returns-in-1
unfolding on_primary
returns-in-1 c = grind (arith, common_steps)

pub returns-in-2-to-255 : goal.returns-in-2-to-255
unfolding on_primary
returns-in-2-to-255 c = grind (arith, common_steps)
