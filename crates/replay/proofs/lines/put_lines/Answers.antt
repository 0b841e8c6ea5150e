-- `replay::lines::put_lines` meets its contract.
use Rattle.replay.proofs.SlotLines.{lined_start, lined_step}
use Rattle.replay.proofs.lines.put_lines.Goals as goal

pub loop-i-init : goal.loop-i-init
loop-i-init c = lined_start _ _ _

pub loop-i-preserved : goal.loop-i-preserved
loop-i-preserved c = search (lined_step)
