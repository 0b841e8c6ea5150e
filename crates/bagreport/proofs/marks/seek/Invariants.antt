-- `bagreport::marks::seek`. The loop's invariant: the bags before this one end before the slot.
use Rattle.bagreport.specs.Turns.{Past}
use Rattle.bagreport.proofs.marks.seek.Given as goal

abbrev pub invariant-loop-bag : goal.invariant-loop-bag
invariant-loop-bag l = Past l.spans l.bag l.s
