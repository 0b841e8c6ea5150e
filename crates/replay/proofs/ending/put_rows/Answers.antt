-- `replay::ending::put_rows` meets its contract.
use native.Mathlib.Omega.{arith}
use Rattle.replay.proofs.EndLines.{rowed_start, rowed_step}
use Rattle.replay.proofs.ending.put_rows.Goals as goal

pub loop-i-init : goal.loop-i-init
loop-i-init c = rowed_start _ _ _ (omega arith)

pub loop-i-preserved : goal.loop-i-preserved
loop-i-preserved c = search (rowed_step)
