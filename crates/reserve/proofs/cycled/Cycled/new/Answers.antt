-- `reserve::cycled::Cycled::new` meets its contract: a table whose rows are not refused is ready.
use Rattle.std.proofs.Common.{rules}
use Rattle.reserve.proofs.Verdict.{rows_ready}
use Rattle.reserve.proofs.cycled.Cycled.new.Goals as goal

pub invariant_of-result : goal.invariant_of-result
invariant_of-result c = record { ready = search (rules, rows_ready) }
