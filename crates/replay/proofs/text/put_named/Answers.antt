-- `replay::text::put_named` meets its contract.
use Rattle.replay.proofs.Laying.{laid_then}
use Rattle.replay.proofs.text.put_named.Goals as goal

pub returns-clause-text : goal.returns-clause-text
returns-clause-text c = search (laid_then)
