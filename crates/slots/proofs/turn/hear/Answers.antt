-- `slots::turn::hear` meets its contract.
use Rattle.std.proofs.Common.{arith}
use Rattle.std.proofs.lemmas.Grind.{common_steps}
use Rattle.refusal.specs.Order.{or_else}
use Rattle.slots.specs.Reports.{report_refusal}
use Rattle.slots.specs.History.{work_of}
use Rattle.slots.proofs.turn.hear.Goals as goal

pub returns-in-0 : goal.returns-in-0
unfolding work_of or_else report_refusal
returns-in-0 c = grind (arith, common_steps)

pub returns-in-1 : goal.returns-in-1
unfolding work_of or_else report_refusal
returns-in-1 c = grind (arith, common_steps)

pub returns-in-3-to-255 : goal.returns-in-3-to-255
unfolding work_of or_else report_refusal
returns-in-3-to-255 c = grind (arith, common_steps)
