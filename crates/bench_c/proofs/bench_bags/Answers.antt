-- `bench_c::bench_bags` meets its contract: the clauses are those of the call.
use Rattle.bench_c.proofs.bench_bags.Goals as goal

pub returns-clause-figure : goal.returns-clause-figure
returns-clause-figure c = c.bench_bags.ensures.figure

pub returns-clause-bytes : goal.returns-clause-bytes
returns-clause-bytes c = c.bench_bags.ensures.bytes
