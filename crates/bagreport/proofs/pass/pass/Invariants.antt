-- `bagreport::pass::pass`: what its loop keeps.
use Rattle.bagreport.proofs.Passing.{PassedTo}
use Rattle.bagreport.proofs.pass.pass.Given as goal

abbrev pub invariant-loop-at : goal.invariant-loop-at
invariant-loop-at l = PassedTo l.t l.reports l.place l.spans l.initial.marks l.at l.q l.tale l.marks l.log l.buffer
