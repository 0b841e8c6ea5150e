-- `table::fold`. The loop's invariant: the cycle is the fold from c of the rows from the loop's place on.
use mathlib.Core.Path.{◌≡◌}
use Prim.Native.Nat.{◌≤◌, ◌<◌}
use lib.ListN.{drop}
use Rattle.table.specs.Rows.{fold_of, cycle_of}
use Rattle.table.proofs.fold.Given as goal

abbrev pub invariant-loop-row : goal.invariant-loop-row
invariant-loop-row l = (0 < l.c) × (l.c ≤ 4096) × (cycle_of l.rows ≡ fold_of l.c (drop l.row-index l.rows))
