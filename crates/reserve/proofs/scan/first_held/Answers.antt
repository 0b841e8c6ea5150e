-- `reserve::scan::first_held` meets its contract.
use Rattle.reserve.proofs.Scanning.{missed_start, missed_found, missed_more, missed_all}
use Rattle.reserve.proofs.scan.first_held.Goals as goal

pub loop-s-init : goal.loop-s-init
loop-s-init c = missed_start _ _ _ _ c.requires.0

pub returns-then-list-s : goal.returns-then-list-s
returns-then-list-s c = missed_found c.loop-s.invariant c.loop-s-test.true c.if-list-s.true

pub loop-s-preserved : goal.loop-s-preserved
loop-s-preserved c = missed_more c.loop-s.invariant c.loop-s-test.true c.if-list-s.false

pub returns : goal.returns
returns c = missed_all c.loop-s.invariant c.loop-s-test.false
