-- `bagreport::report` meets its contract.
use Rattle.bagreport.proofs.ReportCases.{fresh_none, fresh_start, table_told, table_kept}
use Rattle.bagreport.proofs.report.Goals as goal

pub admitted-requires : goal.admitted-requires
admitted-requires c = (search (fresh_none), search (fresh_start))

pub returns-in-Some-clause-answer : goal.returns-in-Some-clause-answer
returns-in-Some-clause-answer c = search (table_told)

pub returns-in-Some-clause-bytes : goal.returns-in-Some-clause-bytes
returns-in-Some-clause-bytes c = search (table_kept)
