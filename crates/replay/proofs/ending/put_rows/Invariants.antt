-- `replay::ending::put_rows`: what its loop keeps.
use Rattle.replay.proofs.EndLines.{Rowed}
use Rattle.replay.proofs.ending.put_rows.Given as goal

abbrev pub invariant-loop-i : goal.invariant-loop-i
invariant-loop-i l = Rowed l.initial.out l.from l.jobs l.out l.at l.i
