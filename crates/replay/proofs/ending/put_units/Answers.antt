-- `replay::ending::put_units` meets its contract.
use Rattle.replay.specs.Lines.{units_text}
use Rattle.replay.proofs.Laying.{laid_then}
use Rattle.replay.proofs.ending.put_units.Goals as goal

pub returns-clause-text : goal.returns-clause-text
unfolding units_text
returns-clause-text c = search (laid_then)
