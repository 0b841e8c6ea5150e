-- `reserve::cycled::Cycled::count_jobs`. The loop's invariant: the jobs of the rows so far are counted.
use Rattle.table.specs.Rows.{used}
use Rattle.reserve.proofs.Scanning.{CountedTo}
use Rattle.reserve.proofs.cycled.Cycled.count_jobs.Given as goal

abbrev pub invariant-loop-row : goal.invariant-loop-row
invariant-loop-row l = CountedTo (used l.fn.self.table) l.row-index l.jobs
