-- `replay::ending::put_ran` meets its contract.
use Rattle.replay.specs.Lines.{ran_line}
use Rattle.replay.proofs.Laying.{laid_then}
use Rattle.replay.proofs.ending.put_ran.Goals as goal

pub returns-clause-text : goal.returns-clause-text
unfolding ran_line
returns-clause-text c = search (laid_then)
