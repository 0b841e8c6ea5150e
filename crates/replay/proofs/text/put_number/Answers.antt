-- `replay::text::put_number` meets its contract.
use Rattle.replay.proofs.Decimals.{number_laid}
use Rattle.replay.proofs.text.put_number.Goals as goal

pub returns-clause-text : goal.returns-clause-text
returns-clause-text c = search (number_laid)
