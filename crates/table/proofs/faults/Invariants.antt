-- `table::faults`. The loop's invariant: the faults of the rows are those of the rows from i on.
use mathlib.Core.Path.{◌≡◌}
use Prim.Native.Nat.{◌+◌}
use lib.ListN.{drop}
use Rattle.table.specs.Check.{faults_of}
use Rattle.table.proofs.faults.Given as goal

abbrev pub invariant-loop-i : goal.invariant-loop-i
invariant-loop-i l = faults_of 1 0 l.rows ≡ faults_of (l.i + 1) l.before (drop l.i l.rows)
