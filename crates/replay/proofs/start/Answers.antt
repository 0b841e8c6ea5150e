-- `replay::start` meets its contract.
use Rattle.replay.proofs.Chunks.{start_is}
use Rattle.replay.proofs.start.Goals as goal

pub returns : goal.returns
returns c = search (start_is)
