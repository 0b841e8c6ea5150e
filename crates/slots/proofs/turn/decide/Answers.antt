-- `slots::turn::decide` meets its contract.
use Rattle.std.proofs.Common.{rules}
use Rattle.slots.proofs.TurnCases.{turn_is, turn_refused}
use Rattle.slots.proofs.turn.decide.Goals as goal

pub returns-in_err-hear : goal.returns-in_err-hear
returns-in_err-hear c = search (rules, turn_refused)

pub returns : goal.returns
returns c = search (rules, turn_is)
