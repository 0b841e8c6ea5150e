-- `plan::line_at`: what its loop keeps.
use Rattle.plan.proofs.PrintedLines.{Looking}
use Rattle.plan.proofs.line_at.Given as goal

abbrev pub invariant-loop-i : goal.invariant-loop-i
invariant-loop-i l = Looking l.row-items l.k l.left l.i
