-- `bench::bags::figure` meets its contract.
use native.Mathlib.Omega.{arith}
use Rattle.std.proofs.Common.{rules}
use Rattle.bench.proofs.BagFigures.{figure_share, figure_refusal}
use Rattle.bench.proofs.bags.figure.Goals as goal

pub bounds-got-i : goal.bounds-got-i
bounds-got-i c = omega arith

pub returns-then-i-lt16 : goal.returns-then-i-lt16
returns-then-i-lt16 c = search (figure_share)

pub returns-else-i-lt16 : goal.returns-else-i-lt16
returns-else-i-lt16 c = search (rules, figure_refusal)
