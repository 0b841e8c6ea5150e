-- `slots::entry::fallen_back` meets its contract.
use Rattle.std.proofs.Common.{arith}
use Rattle.std.proofs.lemmas.Grind.{common_steps}
use Rattle.slots.specs.OneSlot.{on_alternate}
use Rattle.slots.proofs.entry.fallen_back.Goals as goal

pub returns : goal.returns
unfolding on_alternate
returns c = grind (arith, common_steps)
