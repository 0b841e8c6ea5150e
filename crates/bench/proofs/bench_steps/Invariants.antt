-- `bench::bench_steps`. The loop's invariant: the bytes of the slots so far stand in the log.
use Rattle.bench.proofs.OneByOne.{Going}
use Rattle.bench.proofs.bench_steps.Given as goal

abbrev pub invariant-loop-i : goal.invariant-loop-i
invariant-loop-i l = Going l.t l.initial.q l.reports l.initial.log l.log l.q l.i
