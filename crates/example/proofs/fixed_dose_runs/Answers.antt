-- `example::fixed_dose_runs` meets its contract.
use Rattle.std.proofs.Common.{rules}
use Rattle.example.proofs.Told.{told}
use Rattle.example.proofs.fixed_dose_runs.Goals as goal

pub returns : goal.returns
returns c = search (rules, told)
