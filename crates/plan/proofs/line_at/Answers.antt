-- `plan::line_at` meets its contract.
use Prim.Native.Nat.{◌<◌}
use lib.ListN.{length}
use borrow.Author.Rules.{rules}
use Rattle.plan.proofs.PrintedLines.{period_here, look_start, look_on, look_room, look_found, look_end}
use Rattle.plan.proofs.line_at.Goals as goal

pub loop-i-init : goal.loop-i-init
loop-i-init c = look_start c.requires.0 c.rows-row-items.ensures.rows c.rows-row-items.ensures.few _

pub nonzero_div-jobs : goal.nonzero_div-jobs
nonzero_div-jobs c = search (period_here)

pub offset_bounds-firsts-k : goal.offset_bounds-firsts-k
offset_bounds-firsts-k c = let room : c.args.k < length c.args.firsts.now = search (look_room) in search (rules)

pub bounds-firsts-k : goal.bounds-firsts-k
bounds-firsts-k c = search (look_room)

pub returns-then-left-jobs : goal.returns-then-left-jobs
returns-then-left-jobs c = search (look_found)

pub loop-i-preserved : goal.loop-i-preserved
loop-i-preserved c = search (look_on)

pub returns : goal.returns
returns c = search (look_end)
