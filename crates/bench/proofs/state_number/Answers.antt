-- `bench::state_number` meets its contract.
use Rattle.bench.proofs.Figures.{number_waiting, number_failed, number_done}
use Rattle.bench.proofs.state_number.Goals as goal

pub returns-in-Waiting : goal.returns-in-Waiting
returns-in-Waiting c = search (number_waiting)

pub returns-in-Failed : goal.returns-in-Failed
returns-in-Failed c = search (number_failed)

pub returns-in-Done : goal.returns-in-Done
returns-in-Done c = search (number_done)
