-- `replay::lines::put_line` meets its contract.
use Rattle.replay.proofs.Laying.{laid_then}
use Rattle.replay.specs.Lines.{slot_line}
use Rattle.replay.proofs.lines.put_line.Goals as goal

pub returns-clause-text : goal.returns-clause-text
unfolding slot_line
returns-clause-text c = search (laid_then)
