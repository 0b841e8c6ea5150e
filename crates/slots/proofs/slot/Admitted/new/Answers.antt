-- `slots::slot::Admitted::new` meets its contract: a record that is not refused is sound, and the sweep from its clock finds the slot's holder.
use mathlib.Core.Path.{sym}
use Rattle.std.proofs.Common.{rules}
use Rattle.slots.proofs.Admittance.{admit_refused, admit_stands, admit_steady, admit_held, admit_not}
use Rattle.slots.proofs.slot.Admitted.new.Goals as goal

pub invariant_of-result : goal.invariant_of-result
invariant_of-result c =
    let checked = sym c.in_ok-check.ensures in
    let stands = sym c.in_ok-stands.ensures in
    record {
      steady = admit_steady _ _ _ checked _ c.left_units.ensures _ stands _ c.all_fit-fit.ensures _ c.all_hold.ensures c.if-all_hold.true;
      held = admit_held _ _ _ checked _ c.left_units.ensures _ stands _ c.all_fit-fit.ensures _ c.all_hold.ensures c.if-all_hold.true;
    }

pub returns-in_err-check-clause-refused : goal.returns-in_err-check-clause-refused
returns-in_err-check-clause-refused c = search (rules, admit_refused)

pub returns-in_err-stands-clause-refused : goal.returns-in_err-stands-clause-refused
returns-in_err-stands-clause-refused c = search (rules, admit_stands)

pub returns-else-all_hold-clause-refused : goal.returns-else-all_hold-clause-refused
returns-else-all_hold-clause-refused c = search (rules, admit_not)
