-- `replay::lines::put_work` meets its contract.
use native.Mathlib.Omega.{arith}
use Rattle.replay.proofs.SlotLines.{idle_laid, primary_laid, alternate_laid}
use Rattle.replay.proofs.lines.put_work.Goals as goal

pub returns-in-0-clause-text : goal.returns-in-0-clause-text
returns-in-0-clause-text c = search (idle_laid)

pub returns-in-1-to-16-clause-text : goal.returns-in-1-to-16-clause-text
returns-in-1-to-16-clause-text c = primary_laid _ (omega arith) (omega arith) c.put_unit.ensures.text

pub returns-in_default-clause-text : goal.returns-in_default-clause-text
returns-in_default-clause-text c = search (alternate_laid)
