-- `slots::lost_fresh` meets its contract.
use Rattle.slots.proofs.LostAnswers.{lost_start}
use Rattle.slots.proofs.lost_fresh.Goals as goal

pub returns : goal.returns
returns c = search (lost_start)
