-- `replay::text::put_bytes` meets its contract.
use Rattle.replay.proofs.Laying.{copied}
use Rattle.replay.proofs.text.put_bytes.Goals as goal

pub returns : goal.returns
returns c = search (copied)
