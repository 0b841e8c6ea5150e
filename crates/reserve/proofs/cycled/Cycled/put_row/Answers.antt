-- `reserve::cycled::Cycled::put_row` meets its contract.
use Rattle.reserve.proofs.Ready.{row_period}
use Rattle.reserve.proofs.Scanning.{row_jobs, jobs_start, jobs_step}
use Rattle.reserve.proofs.cycled.Cycled.put_row.Goals as goal

pub nonzero_div-jobs : goal.nonzero_div-jobs
nonzero_div-jobs c = row_period c.args.self.now.ready c.rows.ensures.rows _ (rw c.rows.ensures.rows c.requires.0)

pub loop-j-init : goal.loop-j-init
loop-j-init c = jobs_start _ _ _ _ _ (row_jobs c.args.self.now.ready c.rows.ensures.rows _)

pub loop-j-preserved : goal.loop-j-preserved
loop-j-preserved c = jobs_step c.loop-j.invariant c.loop-j-test.true _ c.job_first.ensures
