-- `slots::fresh` meets its contract.
use mathlib.Core.Path.{sym, ◌∙◌}
use Rattle.std.proofs.Common.{rules}
use Rattle.slots.proofs.AnswerCases.{fresh_none, fresh_refused}
use Rattle.slots.proofs.fresh.Goals as goal

pub returns-in-Ok : goal.returns-in-Ok
returns-in-Ok c = search (rules, fresh_none)

pub returns-in-Err : goal.returns-in-Err
returns-in-Err c = fresh_refused _ c.in-Err.f (sym c.check.ensures ∙ c.in-Err.is) _ c.no_jobs.ensures _ c.start_with-in-Err.ensures
