-- `slots::entry::fits` meets its contract.
use Rattle.std.proofs.Common.{arith}
use Rattle.std.proofs.lemmas.Grind.{common_steps}
use Rattle.slots.specs.Sound.{job_fits}
use Rattle.slots.proofs.entry.fits.Goals as goal

pub returns-then-j-r : goal.returns-then-j-r
unfolding job_fits
returns-then-j-r c = grind (arith, common_steps)

pub returns-else-j-r : goal.returns-else-j-r
unfolding job_fits
returns-else-j-r c = grind (arith, common_steps)

pub returns-then-j-r-2 : goal.returns-then-j-r-2
unfolding job_fits
returns-then-j-r-2 c = grind (arith, common_steps)

pub returns-else-j-r-2 : goal.returns-else-j-r-2
unfolding job_fits
returns-else-j-r-2 c = grind (arith, common_steps)

pub returns-then-j-r-3 : goal.returns-then-j-r-3
unfolding job_fits
returns-then-j-r-3 c = grind (arith, common_steps)

pub returns-else-j-r-3 : goal.returns-else-j-r-3
unfolding job_fits
returns-else-j-r-3 c = grind (arith, common_steps)
