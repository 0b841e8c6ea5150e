-- `slots::turn::act` meets its contract.
use Rattle.std.proofs.Common.{arith}
use Rattle.std.proofs.lemmas.Grind.{common_steps}
use Rattle.slots.specs.Turns.{moved_of}
use Rattle.slots.proofs.TurnCases.{byte_work}
use Rattle.slots.proofs.turn.act.Goals as goal

pub returns : goal.returns
unfolding moved_of
returns c = grind (arith, common_steps, byte_work)
