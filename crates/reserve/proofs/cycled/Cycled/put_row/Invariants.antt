-- `reserve::cycled::Cycled::put_row`. The loop's invariant: the first slots of the jobs so far are written.
use Rattle.reserve.proofs.Scanning.{PutJobs}
use Rattle.reserve.proofs.cycled.Cycled.put_row.Given as goal

abbrev pub invariant-loop-j : goal.invariant-loop-j
invariant-loop-j l = PutJobs l.self.table l.i l.initial.out l.out l.at l.jobs l.j
