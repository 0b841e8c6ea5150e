-- `slots::entry::new_job` meets its contract.
use mathlib.Core.Path.{refl}
use Rattle.slots.specs.Records.{new_job}
use Rattle.slots.proofs.entry.new_job.Goals as goal

pub returns : goal.returns
unfolding new_job
returns c = refl
