-- `slots::slot::Admitted::settle` meets its contract.
use mathlib.Core.Path.{sym, ◌∙◌}
use Rattle.std.proofs.Common.{rules}
use Rattle.slots.proofs.Settled.{stands_ready, stands_ticks, stands_workable, settled_none, settled_refused}
use Rattle.slots.proofs.AnswerCases.{stepped_none}
use Rattle.slots.proofs.slot.Admitted.settle.Goals as goal

pub next_record-requires : goal.next_record-requires
next_record-requires c =
    let s = c.args.self.steady in
    (stands_ready s, stands_ticks s (search rules), stands_workable s _ c.runs-ran.ensures (search rules) (search rules))

pub returns-in-Ok : goal.returns-in-Ok
returns-in-Ok c =
    let s = c.args.self.steady in
    stepped_none s _ _ (settled_none s _ c.runs-ran.ensures _ _ (sym c.hear.ensures ∙ c.in-Ok.is) _ c.next_record.ensures)

pub returns-in-Err : goal.returns-in-Err
returns-in-Err c =
    let s = c.args.self.steady in
    stepped_none s _ _ (settled_refused s _ c.runs-ran.ensures _ _ (sym c.hear.ensures ∙ c.in-Err.is))
