-- `bench::job_number` meets its contract.
use Rattle.bench.proofs.Figures.{number_fits}
use Rattle.bench.proofs.job_number.Goals as goal

pub overflow_add-result-2 : goal.overflow_add-result-2
overflow_add-result-2 c = search (number_fits)
