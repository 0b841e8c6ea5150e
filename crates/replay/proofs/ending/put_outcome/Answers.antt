-- `replay::ending::put_outcome` meets its contract.
use Rattle.replay.proofs.EndLines.{ran_laid, refused_laid}
use Rattle.replay.proofs.ending.put_outcome.Goals as goal

pub returns-in-None-clause-text : goal.returns-in-None-clause-text
returns-in-None-clause-text c = search (ran_laid)

pub returns-in-Some-clause-text : goal.returns-in-Some-clause-text
returns-in-Some-clause-text c = search (refused_laid)
