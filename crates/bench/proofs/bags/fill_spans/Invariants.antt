-- `bench::bags::fill_spans`. The loop's invariant: the spans of the bags so far are filled in.
use Rattle.bench.proofs.EvenBags.{Filled}
use Rattle.bench.proofs.bags.fill_spans.Given as goal

abbrev pub invariant-loop-j : goal.invariant-loop-j
invariant-loop-j l = Filled l.size l.initial.spans l.spans l.j
