-- `bagreport::pass::tell`. The loops' invariants: the slots before the i-th have been told; of a stretch's slots, those before the j-th; at its end, the rows before
-- the k-th have been closed.
use Prim.Native.Nat.{◌-◌}
use Rattle.bagreport.proofs.SlotsTold.{Along}
use Rattle.bagreport.proofs.Closing.{Closing}
use Rattle.bagreport.proofs.Recounting.{Recounting}
use Rattle.bagreport.proofs.pass.tell.Given as goal

abbrev pub invariant-loop-j : goal.invariant-loop-j
invariant-loop-j l = Along l.fn.t l.reports l.log l.base l.i l.stop l.opens l.j

abbrev pub invariant-loop-k : goal.invariant-loop-k
invariant-loop-k l = Closing l.rows l.s l.initial.opens l.initial.counts l.opens l.counts l.k

abbrev pub invariant-loop-i : goal.invariant-loop-i
invariant-loop-i l = Recounting l.fn.t l.reports l.log l.base l.n l.place l.spans l.initial.marks l.opens l.counts l.bag l.i l.marks

abbrev pub decreases-loop-i : goal.decreases-loop-i
decreases-loop-i l = l.n - l.i
