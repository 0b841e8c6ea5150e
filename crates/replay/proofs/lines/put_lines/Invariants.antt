-- `replay::lines::put_lines`: what its loop keeps.
use Rattle.replay.proofs.SlotLines.{Lined}
use Rattle.replay.proofs.lines.put_lines.Given as goal

abbrev pub invariant-loop-i : goal.invariant-loop-i
invariant-loop-i l = Lined l.initial.out l.first l.log l.out l.at l.i
