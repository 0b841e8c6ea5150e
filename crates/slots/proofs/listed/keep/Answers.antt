-- `slots::listed::keep` meets its contract.
use borrow.Author.Rules.{rules}
use Rattle.slots.proofs.Settled.{stands_ready}
use Rattle.slots.proofs.Keeping.{keep_ticks, keep_quiet, keep_place, keep_period, keep_end_fits, keep_in_cycle, keep_freed, keep_refilled, keep_over}
use Rattle.slots.proofs.listed.keep.Goals as goal

pub build-requires : goal.build-requires
build-requires c = (search (stands_ready), search (keep_ticks), search rules)

pub returns-then-finished-eq0 : goal.returns-then-finished-eq0
returns-then-finished-eq0 c = search (keep_quiet)

pub bounds-t-place : goal.bounds-t-place
bounds-t-place c = search (keep_place)

pub window_end-end-requires : goal.window_end-end-requires
window_end-end-requires c = (search (keep_period), search (keep_end_fits))

pub refill-requires : goal.refill-requires
refill-requires c = (search (stands_ready), search rules, search (keep_in_cycle), search rules, search (keep_freed))

pub returns-then-clock-end : goal.returns-then-clock-end
returns-then-clock-end c = search (keep_refilled)

pub returns-else-clock-end : goal.returns-else-clock-end
returns-else-clock-end c = search (keep_over)
