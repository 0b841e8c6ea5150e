-- `reserve::reservations` meets its contract.
use Rattle.std.proofs.Common.{rules}
use Rattle.reserve.proofs.HandedOut.{handed_refused, kept_refused, handed_short, kept_short, handed_none, laid_over, list_slots}
use Rattle.reserve.proofs.reservations.Goals as goal

pub returns-then-out-slots-clause-answer : goal.returns-then-out-slots-clause-answer
returns-then-out-slots-clause-answer c = search (rules, handed_short, list_slots)

pub returns-then-out-slots-clause-bytes : goal.returns-then-out-slots-clause-bytes
returns-then-out-slots-clause-bytes c = search (rules, kept_short, list_slots)

pub returns-clause-answer : goal.returns-clause-answer
returns-clause-answer c = search (rules, handed_none, list_slots)

pub returns-clause-bytes : goal.returns-clause-bytes
returns-clause-bytes c = search (rules, laid_over, list_slots)

pub returns-in_err-cycled-clause-answer : goal.returns-in_err-cycled-clause-answer
returns-in_err-cycled-clause-answer c = search (rules, handed_refused)

pub returns-in_err-cycled-clause-bytes : goal.returns-in_err-cycled-clause-bytes
returns-in_err-cycled-clause-bytes c = search (rules, kept_refused)
