-- `slots::fresh_jobs` meets its contract.
use Rattle.slots.specs.Records.{fresh_jobs}
use Rattle.slots.proofs.EntryLoops.{fresh_more}
use Rattle.slots.proofs.fresh_jobs.Goals as goal

pub loop-i-init : goal.loop-i-init
unfolding fresh_jobs
loop-i-init c = c.no_jobs-jobs.ensures

pub loop-i-preserved : goal.loop-i-preserved
loop-i-preserved c = search (fresh_more)
