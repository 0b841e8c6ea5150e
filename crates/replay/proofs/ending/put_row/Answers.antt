-- `replay::ending::put_row` meets its contract.
use Rattle.replay.specs.Lines.{row_line}
use Rattle.replay.proofs.Laying.{laid_then}
use Rattle.replay.proofs.ending.put_row.Goals as goal

pub returns-clause-text : goal.returns-clause-text
unfolding row_line
returns-clause-text c = search (laid_then)
