-- `bagreport::pass::pass` meets its contract.
use Rattle.bagreport.proofs.Passing.{passed_start}
use Rattle.bagreport.proofs.pass.pass.Goals as goal

pub loop-at-init : goal.loop-at-init
loop-at-init c = search (passed_start)
