-- `tablefile::put_rows` meets its contract.
use Rattle.tablefile.proofs.WriteCases.{put_start, put_step}
use Rattle.tablefile.proofs.put_rows.Goals as goal

pub loop-i-init : goal.loop-i-init
loop-i-init c = put_start _ _

pub loop-i-preserved : goal.loop-i-preserved
loop-i-preserved c = search (put_step)
