-- `bagreport::judged` meets its contract.
use borrow.Author.Rules.{rules}
use Rattle.bagreport.proofs.SecondPass.{both_none}
use Rattle.bagreport.proofs.ReportCases.{desk_told, desk_kept, none_told, none_written}
use Rattle.bagreport.proofs.judged.Goals as goal

pub written-requires : goal.written-requires
written-requires c = (search rules, search rules, search rules, search rules, search (both_none), search rules)

pub returns-in-None-clause-answer : goal.returns-in-None-clause-answer
returns-in-None-clause-answer c = search (none_told)

pub returns-in-None-clause-bytes : goal.returns-in-None-clause-bytes
returns-in-None-clause-bytes c = search (none_written)

pub returns-in-Some-clause-answer : goal.returns-in-Some-clause-answer
returns-in-Some-clause-answer c = search (desk_told)

pub returns-in-Some-clause-bytes : goal.returns-in-Some-clause-bytes
returns-in-Some-clause-bytes c = search (desk_kept)
