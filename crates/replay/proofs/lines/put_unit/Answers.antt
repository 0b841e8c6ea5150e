-- `replay::lines::put_unit` meets its contract.
use Rattle.replay.proofs.Laying.{laid_then}
use Rattle.replay.proofs.lines.put_unit.Goals as goal

pub returns-clause-text : goal.returns-clause-text
returns-clause-text c = search (laid_then)
