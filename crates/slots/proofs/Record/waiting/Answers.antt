-- `slots::Record::waiting` meets its contract.
use Rattle.std.proofs.Common.{rules}
use Rattle.slots.proofs.AnswerCases.{awaiting_none, awaiting_refused}
use Rattle.slots.proofs.Record.waiting.Goals as goal

pub returns-in_err-new : goal.returns-in_err-new
returns-in_err-new c = search (rules, awaiting_refused)

pub returns : goal.returns
returns c = let a = c.in_ok-new.field-0 in let e = c.in_ok-new.ensures.passed in rw (← e.0, ← e.1) (awaiting_none a.steady (search rules) _ c.waiting.ensures)
