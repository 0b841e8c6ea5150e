-- `table::fault` meets its contract: the tests on the way to each return are those of a case of `fault_of`.
use mathlib.Core.Path.{sym}
use Rattle.table.proofs.FaultCases.{fault_zero, fault_long, fault_order, fault_fits}
use Rattle.table.proofs.fault.Goals as goal

pub returns-then-is_zero : goal.returns-then-is_zero
returns-then-is_zero c = search (fault_zero, c.if-is_zero.ensures)

pub returns-then-is_long : goal.returns-then-is_long
returns-then-is_long c = search (fault_long, c.if-is_zero.ensures, c.if-is_long.ensures)

pub returns-then-r-before : goal.returns-then-r-before
returns-then-r-before c = fault_order _ _ _ (sym c.if-is_zero.ensures) (sym c.if-is_long.ensures) c.if-r-before.true

pub returns-else-r-before : goal.returns-else-r-before
returns-else-r-before c = fault_fits _ _ _ (sym c.if-is_zero.ensures) (sym c.if-is_long.ensures) c.if-r-before.false
