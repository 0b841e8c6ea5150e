-- `reserve::cycled::Cycled::put_firsts` meets its contract.
use native.Mathlib.Omega.{arith}
use Rattle.reserve.proofs.Ready.{row_period}
use Rattle.reserve.proofs.Scanning.{row_jobs, rows_start, rows_room, rows_step, rows_end}
use Rattle.reserve.proofs.cycled.Cycled.put_firsts.Goals as goal

pub loop-i-init : goal.loop-i-init
loop-i-init c = rows_start _ _

pub put_row-requires : goal.put_row-requires
put_row-requires c =
    let l = rw c.rows-row-items.ensures.rows at c.loop-i-test.true in
    (l, c.requires.0, omega (arith, rows_room c.loop-i.invariant l, c.loop-i.invariant.size, c.requires.1))

pub nonzero_div-at : goal.nonzero_div-at
nonzero_div-at c = row_period c.args.self.now.ready c.rows-row-items.ensures.rows _ c.loop-i-test.true

pub loop-i-preserved : goal.loop-i-preserved
loop-i-preserved c =
    let q = c.rows-row-items.ensures.rows in
    rows_step c.loop-i.invariant (rw q at c.loop-i-test.true) (row_jobs c.args.self.now.ready q _) c.put_row.ensures

pub returns : goal.returns
returns c = rows_end c.loop-i.invariant (rw c.rows-row-items.ensures.rows at c.loop-i-test.false)
