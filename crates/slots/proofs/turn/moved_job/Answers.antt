-- `slots::turn::moved_job` meets its contract.
use Rattle.std.proofs.Common.{arith}
use Rattle.std.proofs.lemmas.Grind.{common_steps}
use Rattle.slots.specs.History.{work_of}
use Rattle.slots.specs.Turns.{moved_by}
use Rattle.slots.proofs.turn.moved_job.Goals as goal

pub returns-then-ran-eq0 : goal.returns-then-ran-eq0
unfolding work_of moved_by
returns-then-ran-eq0 c = grind (arith, common_steps)

pub returns-then-ran-le16 : goal.returns-then-ran-le16
unfolding work_of moved_by
returns-then-ran-le16 c = grind (arith, common_steps)

pub returns-else-ran-le16 : goal.returns-else-ran-le16
unfolding work_of moved_by
returns-else-ran-le16 c = grind (arith, common_steps)
