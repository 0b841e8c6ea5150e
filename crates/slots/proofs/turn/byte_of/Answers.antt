-- `slots::turn::byte_of` meets its contract.
use Rattle.std.proofs.Common.{arith}
use Rattle.std.proofs.lemmas.Grind.{common_steps}
use Rattle.slots.specs.OneSlot.{byte_of}
use Rattle.slots.proofs.turn.byte_of.Goals as goal

pub returns-then-holder-eq0 : goal.returns-then-holder-eq0
unfolding byte_of
returns-then-holder-eq0 c = grind (arith, common_steps)

pub returns-else-holder-eq0 : goal.returns-else-holder-eq0
unfolding byte_of
returns-else-holder-eq0 c = grind (arith, common_steps)
