-- `bagreport::pass::tell` meets its contract.
use native.Mathlib.Omega.{arith}
use borrow.Author.Rules.{rules}
use Rattle.bagreport.proofs.SlotsTold.{along_step}
use Rattle.bagreport.proofs.Closing.{closing_step}
use Rattle.bagreport.proofs.Recounting.{recounting_periods, recounting_period, recounting_past, recounting_closing, recounting_step}
use Rattle.bagreport.proofs.pass.tell.Goals as goal

pub to_nearest_end-gap-requires : goal.to_nearest_end-gap-requires
to_nearest_end-gap-requires c = recounting_periods c.loop-i.invariant c.rows-rows.ensures.rows

pub loop-j-preserved : goal.loop-j-preserved
loop-j-preserved c = search (along_step)

pub mark_job-bag-requires : goal.mark_job-bag-requires
mark_job-bag-requires c = (search (recounting_period), search rules, search rules, recounting_past c.loop-i.invariant (omega arith) (omega arith))

pub loop-k-init : goal.loop-k-init
loop-k-init c = recounting_closing c.loop-i.invariant (omega arith) (omega arith) c.rows-rows.ensures.rows c.loop-j.invariant

pub loop-k-preserved : goal.loop-k-preserved
loop-k-preserved c = search (closing_step)

pub loop-i-preserved : goal.loop-i-preserved
loop-i-preserved c = recounting_step c.loop-i.invariant (omega arith) (omega arith) c.rows-rows.ensures.rows c.loop-j.invariant c.to_nearest_end-gap.ensures.1
    (omega arith) c.loop-j-test.false c.mark_job-bag.ensures.bag c.mark_job-bag.ensures.bytes c.loop-k.invariant c.loop-k-test.false
