-- `slots::buffer::hold`. The loop's invariant: the slots passed are reserved or left, and what is left of the claim is known.
use Rattle.slots.proofs.Holding.{Holding}
use Rattle.slots.proofs.buffer.hold.Given as goal

abbrev pub invariant-loop-s : goal.invariant-loop-s
invariant-loop-s l = Holding l.row l.first l.end l.units l.initial.out l.out l.s l.left
