-- `replay::print_end` meets its contract.
use native.Mathlib.Omega.{arith}
use Rattle.reserve.proofs.Verdict.{table_accepted}
use Rattle.replay.proofs.print_end.Goals as goal

pub put_end-n-requires : goal.put_end-n-requires
put_end-n-requires c = let few = (table_accepted _ c.requires.0).few in (omega arith, omega arith)
