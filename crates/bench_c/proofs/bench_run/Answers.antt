-- `bench_c::bench_run` meets its contract: the clauses are those of the call.
use Rattle.bench_c.proofs.bench_run.Goals as goal

pub returns-clause-figure : goal.returns-clause-figure
returns-clause-figure c = c.bench_run.ensures.figure

pub returns-clause-bytes : goal.returns-clause-bytes
returns-clause-bytes c = c.bench_run.ensures.bytes

pub returns-clause-buffer : goal.returns-clause-buffer
returns-clause-buffer c = c.bench_run.ensures.buffer
