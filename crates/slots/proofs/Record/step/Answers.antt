-- `slots::Record::step` meets its contract.
use Rattle.std.proofs.Common.{rules}
use Rattle.slots.proofs.AnswerCases.{stepped_refused}
use Rattle.slots.proofs.Record.step.Goals as goal

pub returns-in-Err : goal.returns-in-Err
returns-in-Err c = search (rules, stepped_refused)
