-- `replay::ending::put_clock` meets its contract.
use Rattle.replay.specs.Lines.{clock_line}
use Rattle.replay.proofs.Laying.{laid_then}
use Rattle.replay.proofs.ending.put_clock.Goals as goal

pub returns-clause-text : goal.returns-clause-text
unfolding clock_line
returns-clause-text c = search (laid_then)
