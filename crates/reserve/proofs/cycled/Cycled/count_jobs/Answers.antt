-- `reserve::cycled::Cycled::count_jobs` meets its contract.
use Rattle.reserve.proofs.Ready.{row_period}
use Rattle.reserve.proofs.Scanning.{row_jobs, count_start, count_step, count_end}
use Rattle.reserve.proofs.cycled.Cycled.count_jobs.Goals as goal

pub loop-row-init : goal.loop-row-init
loop-row-init c = let q = c.rows-row-items.ensures in count_start c.args.self.now.ready (rw q.rows at q.few)

pub nonzero_div-jobs : goal.nonzero_div-jobs
nonzero_div-jobs c = row_period c.args.self.now.ready c.rows-row-items.ensures.rows _ c.loop-row-test.true

pub loop-row-preserved : goal.loop-row-preserved
loop-row-preserved c =
    let q = c.rows-row-items.ensures.rows in
    count_step c.args.self.now.ready c.loop-row.invariant (rw q at c.loop-row-test.true) (row_jobs c.args.self.now.ready q _)

pub returns : goal.returns
returns c = count_end c.args.self.now.ready c.loop-row.invariant (rw c.rows-row-items.ensures.rows at c.loop-row-test.false)
