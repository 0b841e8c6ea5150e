-- `replay::ending::put_refused` meets its contract.
use Rattle.replay.specs.Lines.{refused_line}
use Rattle.replay.proofs.Laying.{laid_then}
use Rattle.replay.proofs.ending.put_refused.Goals as goal

pub returns-clause-text : goal.returns-clause-text
unfolding refused_line
returns-clause-text c = search (laid_then)
