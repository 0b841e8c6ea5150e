-- `table::check_rows` meets its contract: each return is a case of the answer.
use native.Mathlib.Omega.{arith}
use Rattle.std.proofs.Common.{rules}
use Rattle.table.proofs.Check.{check_empty, check_many, check_fault, periods, check_last}
use Rattle.table.proofs.check_rows.Goals as goal

pub returns-then-t-eq0 : goal.returns-then-t-eq0
returns-then-t-eq0 c = search (check_empty)

pub returns-then-t-gt16 : goal.returns-then-t-gt16
returns-then-t-gt16 c = check_many _ (omega arith)

pub returns-in_err-faults : goal.returns-in_err-faults
returns-in_err-faults c = search (rules, check_fault)

pub fold-requires : goal.fold-requires
fold-requires c = search (rules, periods)

pub returns : goal.returns
returns c = search (rules, check_last)
