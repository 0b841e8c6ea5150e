-- `reserve::scan::first_held`. The loop's invariant: the slots passed are not the row's.
use Rattle.reserve.proofs.Scanning.{Missed}
use Rattle.reserve.proofs.scan.first_held.Given as goal

abbrev pub invariant-loop-s : goal.invariant-loop-s
invariant-loop-s l = Missed l.list l.row l.from l.to l.s
