-- `slots::Record::lost` meets its contract.
use Rattle.std.proofs.Common.{rules}
use Rattle.slots.proofs.LostAnswers.{lost_refused}
use Rattle.slots.proofs.Record.lost.Goals as goal

pub returns-in_err-new : goal.returns-in_err-new
returns-in_err-new c = search (rules, lost_refused)
