-- `reserve::cycled::Cycled::pass` meets its contract.
use native.Mathlib.Omega.{arith}
use lib.ListN.{length-set}
use Rattle.reserve.proofs.Ready.{row_period}
use Rattle.reserve.proofs.Pass.{pass_start, pass_step}
use Rattle.reserve.proofs.cycled.Cycled.pass.Goals as goal

pub loop-i-init : goal.loop-i-init
loop-i-init c = (c.told-rests, pass_start _ _ _ _ _)

pub arrived-x-requires : goal.arrived-x-requires
arrived-x-requires c = row_period c.args.self.now.ready c.rows-row-items.ensures.rows _ c.loop-i-test.true

pub short_here-requires : goal.short_here-requires
short_here-requires c = row_period c.args.self.now.ready c.rows-row-items.ensures.rows _ c.loop-i-test.true

pub loop-i-preserved : goal.loop-i-preserved
loop-i-preserved c =
    let inv = c.loop-i.invariant in
    let e = c.rows-row-items.ensures.rows in
    let l = rw e at c.loop-i-test.true in (
      simp length-set inv.0,
      pass_step c.args.self.now.ready c.requires.0 l (omega (arith, c.loop-i-test.true, c.rows-row-items.ensures.few, inv.0)) _ _ inv.1 c.requires.2
          (rw e at c.arrived-x.ensures) c.spent-y.ensures c.picked-holder.ensures (rw e at c.short_here.ensures) c.picked-short.ensures,
    )
