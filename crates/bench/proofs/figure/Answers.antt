-- `bench::figure` meets its contract.
use Prim.Native.Nat.{◌<◌}
use native.Mathlib.Omega.{arith}
use Rattle.bench.proofs.Figures.{figure_job, figure_clock, figure_slots}
use Rattle.bench.proofs.figure.Goals as goal

pub returns-then-i-lt16 : goal.returns-then-i-lt16
returns-then-i-lt16 c = let place : c.args.i < 16 = omega arith in search (figure_job)

pub returns-then-i-lt17 : goal.returns-then-i-lt17
returns-then-i-lt17 c = search (figure_clock)

pub returns-else-i-lt17 : goal.returns-else-i-lt17
returns-else-i-lt17 c = search (figure_slots)
