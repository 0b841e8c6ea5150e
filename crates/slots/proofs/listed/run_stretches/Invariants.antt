-- `slots::listed::run_stretches`: what its loops keep, and what falls at each turn of the two over the list.
use Prim.Native.Nat.{◌-◌}
use lib.ListN.{length}
use Rattle.slots.proofs.Renewals.{Renewal}
use Rattle.slots.proofs.Stretches.{Stretching}
use Rattle.slots.proofs.KeptRun.{Coursing}
use Rattle.slots.proofs.listed.run_stretches.Given as goal

abbrev pub invariant-loop-i-2 : goal.invariant-loop-i-2
invariant-loop-i-2 l = Stretching l.t l.cycle l.reports l.initial.log l.initial.kept l.initial.jobs l.initial.clock l.opens l.initial.lost l.initial.i l.log l.kept l.jobs l.clock l.waiting l.lost l.i l.stop l.finished

abbrev pub decreases-loop-i-2 : goal.decreases-loop-i-2
decreases-loop-i-2 l = length l.reports - l.i

abbrev pub invariant-loop-k : goal.invariant-loop-k
invariant-loop-k l = Renewal l.t l.cycle l.clock l.initial.jobs l.jobs l.waiting l.opens l.k

abbrev pub invariant-loop-i : goal.invariant-loop-i
invariant-loop-i l = Coursing l.t l.cycle l.reports l.initial.log l.initial.kept l.initial.jobs l.initial.clock l.initial.lost l.initial.i l.log l.kept l.jobs l.clock l.waiting l.opens l.lost l.i

abbrev pub decreases-loop-i : goal.decreases-loop-i
decreases-loop-i l = length l.reports - l.i
