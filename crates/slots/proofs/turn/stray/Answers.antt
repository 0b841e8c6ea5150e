-- `slots::turn::stray` meets its contract.
use Rattle.std.proofs.Common.{arith}
use Rattle.std.proofs.lemmas.Grind.{common_steps}
use Rattle.refusal.specs.Order.{or_else}
use Rattle.slots.specs.Reports.{report_refusal}
use Rattle.slots.specs.History.{work_of}
use Rattle.slots.proofs.turn.stray.Goals as goal

pub returns-then-ran-le16 : goal.returns-then-ran-le16
unfolding work_of or_else report_refusal
returns-then-ran-le16 c = grind (arith, common_steps)

pub returns-else-ran-gt0 : goal.returns-else-ran-gt0
unfolding work_of or_else report_refusal
returns-else-ran-gt0 c = grind (arith, common_steps)
