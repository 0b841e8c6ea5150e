-- `tablefile::rows_from`. The loop's invariant: the rows so far are read.
use mathlib.Core.Path.{◌≡◌}
use lib.ListN.{take}
use Rattle.tablefile.specs.Layout.{rows_from}
use Rattle.tablefile.proofs.rows_from.Given as goal

abbrev pub invariant-loop-i : goal.invariant-loop-i
invariant-loop-i l = take l.i l.row-items ≡ rows_from l.s 4 l.i
