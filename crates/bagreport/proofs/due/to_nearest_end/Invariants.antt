-- `bagreport::due::to_nearest_end`. The loop's invariant: no window of the rows so far ends nearer.
use Prim.Native.Nat.{ℕ, ◌+◌, ◌≤◌, ◌<◌}
use Rattle.table.specs.Rows.{row_at}
use Rattle.table.specs.Windows.{window_end}
use Rattle.bagreport.proofs.due.to_nearest_end.Given as goal

abbrev pub invariant-loop-row : goal.invariant-loop-row
invariant-loop-row l = (0 < l.nearest) × ((k : ℕ) → k < l.row-index → l.s + l.nearest ≤ window_end (row_at l.fn.rows k) l.s)
