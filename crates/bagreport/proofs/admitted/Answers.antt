-- `bagreport::admitted` meets its contract.
use Rattle.std.proofs.Common.{rules}
use Rattle.bagreport.proofs.Passing.{bagged_none, ordered_none}
use Rattle.bagreport.proofs.SecondPass.{none_refused, first_row_lem}
use Rattle.bagreport.proofs.ReportCases.{room_told, room_kept, run_told, run_kept}
use Rattle.bagreport.proofs.admitted.Goals as goal

pub returns-then-marks-spans-clause-answer : goal.returns-then-marks-spans-clause-answer
returns-then-marks-spans-clause-answer c = search (room_told)

pub returns-then-marks-spans-clause-bytes : goal.returns-then-marks-spans-clause-bytes
returns-then-marks-spans-clause-bytes c = search (room_kept)

pub pass-requires : goal.pass-requires
pass-requires c = (search rules, search rules, search (first_row_lem), search (ordered_none), search (bagged_none))

pub judged-requires : goal.judged-requires
judged-requires c = (search rules, search rules, search (none_refused), c.in-Ok.ensures.counts, search rules)

pub returns-in-Err-clause-answer : goal.returns-in-Err-clause-answer
returns-in-Err-clause-answer c = search (run_told)

pub returns-in-Err-clause-bytes : goal.returns-in-Err-clause-bytes
returns-in-Err-clause-bytes c = search (run_kept)
