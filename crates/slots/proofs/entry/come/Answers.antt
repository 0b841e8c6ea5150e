-- `slots::entry::come` meets its contract.
use Rattle.std.proofs.Common.{arith}
use Rattle.std.proofs.lemmas.Grind.{common_steps}
use Rattle.table.specs.Windows.{starts}
use Rattle.slots.proofs.entry.come.Goals as goal

pub returns-then-c-r-eq0 : goal.returns-then-c-r-eq0
unfolding starts
returns-then-c-r-eq0 c = grind (arith, common_steps)

pub returns-else-c-r-eq0 : goal.returns-else-c-r-eq0
unfolding starts
returns-else-c-r-eq0 c = grind (arith, common_steps)
