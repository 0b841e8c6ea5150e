-- `tablefile::rows_from` meets its contract.
use mathlib.Core.Path.{refl}
use native.Mathlib.Omega.{arith}
use Rattle.tablefile.specs.Layout.{rows_from}
use Rattle.tablefile.proofs.ReadCases.{rows_step, rows_end}
use Rattle.tablefile.proofs.rows_from.Goals as goal

pub loop-i-init : goal.loop-i-init
unfolding rows_from
loop-i-init c = refl

pub loop-i-preserved : goal.loop-i-preserved
loop-i-preserved c = rows_step _ _ _ c.loop-i.invariant (omega (arith, c.loop-i-test.true, c.loop-i.auto.row-items)) _ c.row_from.ensures

pub returns : goal.returns
returns c = rows_end _ _ _ _ c.loop-i.invariant _ c.zeros.ensures c.requires c.loop-i.auto.row-items (omega (arith, c.loop-i.auto.i-end, c.loop-i-test.false))
