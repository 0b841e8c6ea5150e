-- `slots::Record::what_runs` meets its contract.
use Rattle.std.proofs.Common.{rules}
use Rattle.slots.proofs.AnswerCases.{asked_none, asked_refused}
use Rattle.slots.proofs.Record.what_runs.Goals as goal

pub returns-in_err-new : goal.returns-in_err-new
returns-in_err-new c = search (rules, asked_refused)

pub returns : goal.returns
returns c = let a = c.in_ok-new.field-0 in let e = c.in_ok-new.ensures.passed in rw (← e.0, ← e.1) (asked_none a.steady _ c.runs.ensures)
