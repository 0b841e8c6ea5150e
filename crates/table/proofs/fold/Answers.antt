-- `table::fold` meets its contract.
use mathlib.Core.Path.{refl, sym, ◌∙◌}
use native.Mathlib.Omega.{arith}
use Rattle.std.proofs.Common.{rules}
use Rattle.table.specs.Rows.{cycle_of}
use Rattle.table.proofs.Capped.{fold_turn, fold_over, fold_end}
use Rattle.table.proofs.fold.Goals as goal

pub loop-row-init : goal.loop-row-init
unfolding cycle_of
loop-row-init c = (omega arith, omega arith, refl)

pub loop-row-preserved : goal.loop-row-preserved
loop-row-preserved c = fold_turn c.args.rows.now c.requires c.loop-row.row-index c.loop-row.c c.loop-row.invariant.2 c.loop-row.invariant.0 c.loop-row-test.true c.in_ok-c.c (sym c.in_ok-c.was ∙ c.join.ensures)

pub returns-in_err-c : goal.returns-in_err-c
returns-in_err-c c = search (rules, fold_over)

pub returns : goal.returns
returns c = search (fold_end)
