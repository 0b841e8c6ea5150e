-- `reserve::accepted` meets its contract.
use Rattle.std.proofs.Common.{rules}
use Rattle.reserve.proofs.Verdict.{check_refused, check_none, check_tight}
use Rattle.reserve.proofs.accepted.Goals as goal

pub returns-in_err-cycled-clause-refused : goal.returns-in_err-cycled-clause-refused
returns-in_err-cycled-clause-refused c = search (rules, check_refused)

pub returns-in-0-clause-passed : goal.returns-in-0-clause-passed
returns-in-0-clause-passed c = search (rules, check_none)

pub returns-in_default-clause-refused : goal.returns-in_default-clause-refused
returns-in_default-clause-refused c = search (rules, check_tight, c.in_default)
