-- `bags::lines::in_millionths` meets its contract.
use native.Mathlib.Omega.{arith}
use Rattle.bags.specs.Lines.{millionths}
use Rattle.bags.proofs.lines.in_millionths.Goals as goal

pub returns : goal.returns
unfolding millionths
returns c = omega arith
