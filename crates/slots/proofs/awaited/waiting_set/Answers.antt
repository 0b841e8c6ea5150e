-- `slots::awaited::waiting_set` meets its contract.
use native.Mathlib.Omega.{arith}
use lib.ListN.{take}
use Rattle.std.proofs.lemmas.List.{length_push}
use Rattle.std.proofs.lemmas.Iterator.Adapters.{YieldsList-from_rev_slice}
use Rattle.std.proofs.lemmas.Iterator.Consumers.{YieldsList-turn}
use Rattle.slots.proofs.SetLaws.{built_start, built_room, built_step}
use Rattle.slots.proofs.awaited.waiting_set.Goals as goal

pub loop-job-init : goal.loop-job-init
loop-job-init c = search (built_start)

pub joined-x-requires : goal.joined-x-requires
joined-x-requires c =
    let t = YieldsList-turn (YieldsList-from_rev_slice (take c.args.n c.args.jobs) cc) c.loop-job.yielded _ c.loop-job.yielded_by _ _ c.in-Some.job c.in-Some.is c.next.ensures.steps in
    built_room c.loop-job.invariant (omega arith) t.0

pub loop-job-preserved : goal.loop-job-preserved
loop-job-preserved c =
    let t = YieldsList-turn (YieldsList-from_rev_slice (take c.args.n c.args.jobs) cc) c.loop-job.yielded _ c.loop-job.yielded_by _ _ c.in-Some.job c.in-Some.is c.next.ensures.steps in
    rw length_push (built_step c.loop-job.invariant (omega arith) t.0 _ t.1 _ c.joined-x.ensures)
