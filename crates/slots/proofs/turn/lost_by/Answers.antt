-- `slots::turn::lost_by` meets its contract.
use Rattle.std.proofs.Common.{arith}
use Rattle.std.proofs.lemmas.Grind.{common_steps}
use Rattle.slots.specs.History.{work_of}
use Rattle.slots.specs.Turns.{loss_by}
use Rattle.slots.proofs.turn.lost_by.Goals as goal

pub returns-then-eq : goal.returns-then-eq
unfolding work_of loss_by
returns-then-eq c = grind (arith, common_steps)

pub returns-else-ran-gt16 : goal.returns-else-ran-gt16
unfolding work_of loss_by
returns-else-ran-gt16 c = grind (arith, common_steps)
