-- `tablefile::read` meets its contract.
use Rattle.std.proofs.Common.{rules}
use Rattle.tablefile.proofs.ReadCases.{read_refused, read_few, rows_refused, read_table}
use Rattle.tablefile.proofs.read.Goals as goal

pub returns-in_err-n : goal.returns-in_err-n
returns-in_err-n c = search (rules, read_refused)

pub rows_from-rows-requires : goal.rows_from-rows-requires
rows_from-rows-requires c = search (rules, read_few)

pub returns-in_err-check : goal.returns-in_err-check
returns-in_err-check c = search (rules, rows_refused)

pub returns : goal.returns
returns c = search (rules, read_table)
