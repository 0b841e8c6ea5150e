-- `replay::ending::put_end` meets its contract.
use Rattle.replay.specs.Lines.{end_lines}
use Rattle.replay.proofs.Laying.{laid_then}
use Rattle.replay.proofs.EndLines.{rows_laid}
use borrow.Author.Rules.{rules}
use Rattle.replay.proofs.ending.put_end.Goals as goal

pub returns : goal.returns
unfolding end_lines
returns c = laid_then (laid_then c.put_outcome-ended.ensures.text c.put_clock-clock.ensures.text) (rows_laid _ _ (search rules) c.put_rows.ensures)
