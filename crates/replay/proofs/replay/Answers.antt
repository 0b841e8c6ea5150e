-- `replay::replay` meets its contract.
use native.Mathlib.Omega.{arith}
use Rattle.replay.proofs.Replaying.{replayed_start, replayed_more}
use Rattle.replay.proofs.replay.Goals as goal

pub loop-init : goal.loop-init
loop-init c = search (replayed_start)

pub loop-preserved : goal.loop-preserved
loop-preserved c = replayed_more c.requires c.loop.invariant (omega arith) _ (omega arith) _ c.put_chunk-done.ensures.progress
