-- `slots::awaited::waiting_set`. The loop's invariant: x is the set of the rows so far, from the last one down.
use lib.ListN.{length}
use Rattle.slots.proofs.SetLaws.{Built}
use Rattle.slots.proofs.awaited.waiting_set.Given as goal

abbrev pub invariant-loop-job : goal.invariant-loop-job
invariant-loop-job l = Built l.fn.jobs l.n (length l.yielded) l.x
