-- `bench_c::bench_steps` meets its contract: the clauses are those of the call.
use Rattle.bench_c.proofs.bench_steps.Goals as goal

pub returns-clause-slots : goal.returns-clause-slots
returns-clause-slots c = c.bench_steps.ensures.slots

pub returns-clause-bytes : goal.returns-clause-bytes
returns-clause-bytes c = c.bench_steps.ensures.bytes
