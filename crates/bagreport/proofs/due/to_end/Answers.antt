-- `bagreport::due::to_end` meets its contract.
use Rattle.bagreport.proofs.NearestEnd.{end_far, end_ahead}
use Rattle.bagreport.proofs.due.to_end.Goals as goal

pub returns : goal.returns
returns c = (search (end_far), search (end_ahead))
