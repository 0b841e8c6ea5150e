-- `reserve::from_clock` meets its contract.
use Rattle.std.proofs.Common.{rules}
use Rattle.reserve.proofs.FromClock.{from_refused, from_none}
use Rattle.reserve.proofs.from_clock.Goals as goal

pub returns-in_err-cycled : goal.returns-in_err-cycled
returns-in_err-cycled c = search (rules, from_refused)

pub returns : goal.returns
returns c = search (rules, from_none)
