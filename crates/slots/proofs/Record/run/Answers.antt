-- `slots::Record::run` meets its contract.
use Rattle.std.proofs.Common.{rules}
use Rattle.slots.proofs.AnswerCases.{ran_refused, log_refused, buffer_refused}
use Rattle.slots.proofs.Record.run.Goals as goal

pub returns-in-Err-clause-answer : goal.returns-in-Err-clause-answer
returns-in-Err-clause-answer c = search (rules, ran_refused)

pub returns-in-Err-clause-bytes : goal.returns-in-Err-clause-bytes
returns-in-Err-clause-bytes c = search (rules, log_refused)

pub returns-in-Err-clause-kept : goal.returns-in-Err-clause-kept
returns-in-Err-clause-kept c = search (rules, buffer_refused)
