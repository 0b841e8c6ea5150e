-- `reserve::cycled::Cycled::fill` meets its contract.
use native.Mathlib.Omega.{arith}
use Rattle.reserve.proofs.Down.{next_turn, filled_start, filled_turn}
use Rattle.reserve.proofs.Sweeps.{sweep_start, fill_end}
use Rattle.reserve.proofs.cycled.Cycled.fill.Goals as goal

pub loop-s-init : goal.loop-s-init
loop-s-init c = (sweep_start c.args.self.now.ready _ _ _, filled_start _ _ _ _ _)

pub loop-s-preserved : goal.loop-s-preserved
loop-s-preserved c = let inv = c.loop-s.invariant in (
  next_turn _ _ _ _ inv.0 (omega (arith, c.loop-s-test.true)) c.pass-now.ensures,
  filled_turn _ _ _ _ inv.1 inv.0.within (omega (arith, c.loop-s-test.true)) c.requires c.pass-now.ensures,
)

pub returns : goal.returns
returns c = fill_end c.args.self.now.ready _ c.alternates-left.ensures _ _ _ c.loop-s-test.false c.requires c.loop-s.invariant.1
