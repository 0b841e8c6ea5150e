-- `reserve::cycled::Cycled::down` meets its contract.
use native.Mathlib.Omega.{arith}
use Rattle.reserve.proofs.Down.{next_turn, found_start, found_turn}
use Rattle.reserve.proofs.Sweeps.{sweep_start, down_end}
use Rattle.reserve.proofs.cycled.Cycled.down.Goals as goal

pub loop-s-init : goal.loop-s-init
loop-s-init c = (sweep_start c.args.self.now.ready _ _ _, found_start _ _ _ _ _)

pub loop-s-preserved : goal.loop-s-preserved
loop-s-preserved c = let inv = c.loop-s.invariant in (
  next_turn _ _ _ _ inv.0 (omega (arith, c.loop-s-test.true)) c.pass-now.ensures,
  found_turn _ _ _ _ inv.0.within c.loop-s-test.true inv.1 c.pass-now.ensures c.lower-short.ensures,
)

pub returns : goal.returns
returns c = down_end c.args.self.now.ready c.loop-s-test.false _ c.loop-s.invariant.0 c.loop-s.invariant.1
