-- `replay::ending::put_cause` meets its contract.
use Rattle.replay.proofs.Laying.{laid_then}
use Rattle.replay.proofs.EndLines.{cause_laid}
use Rattle.replay.proofs.ending.put_cause.Goals as goal

pub returns-clause-text : goal.returns-clause-text
returns-clause-text c = search (cause_laid, laid_then)
