-- `reserve::first_slots` meets its contract.
use Rattle.std.proofs.Common.{rules}
use Rattle.reserve.proofs.Ready.{cycle_fits}
use Rattle.reserve.proofs.HandedOut.{handed_refused, kept_refused, handed_short, kept_short, handed_none, set_over, filled_listed}
use Rattle.reserve.proofs.first_slots.Goals as goal

pub returns-then-out-jobs-clause-answer : goal.returns-then-out-jobs-clause-answer
returns-then-out-jobs-clause-answer c = search (rules, handed_short)

pub returns-then-out-jobs-clause-places : goal.returns-then-out-jobs-clause-places
returns-then-out-jobs-clause-places c = search (rules, kept_short)

pub fill-requires : goal.fill-requires
fill-requires c = cycle_fits c.in_ok-cycled.cycled.ready

pub put_firsts-requires : goal.put_firsts-requires
put_firsts-requires c = (filled_listed c.in_ok-cycled.cycled.ready _ _ (cycle_fits c.in_ok-cycled.cycled.ready) c.fill.ensures, search rules)

pub returns-clause-answer : goal.returns-clause-answer
returns-clause-answer c = search (rules, handed_none)

pub returns-clause-places : goal.returns-clause-places
returns-clause-places c = search (rules, set_over)

pub returns-in_err-cycled-clause-answer : goal.returns-in_err-cycled-clause-answer
returns-in_err-cycled-clause-answer c = search (rules, handed_refused)

pub returns-in_err-cycled-clause-places : goal.returns-in_err-cycled-clause-places
returns-in_err-cycled-clause-places c = search (rules, kept_refused)
