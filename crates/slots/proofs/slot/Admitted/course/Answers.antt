-- `slots::slot::Admitted::course` meets its contract.
use borrow.Author.Rules.{rules}
use Rattle.slots.proofs.Settled.{stands_ready, stands_few, stands_ticks}
use Rattle.slots.proofs.slot.Admitted.course.Goals as goal

pub build-requires : goal.build-requires
build-requires c = let s = c.args.self.steady in (stands_ready s, stands_ticks s (search rules), search rules)

pub waiting_set-waiting-requires : goal.waiting_set-waiting-requires
waiting_set-waiting-requires c = stands_few c.args.self.steady

pub next_opening-opens-requires : goal.next_opening-opens-requires
next_opening-opens-requires c = let s = c.args.self.steady in (stands_ready s, stands_ticks s (search rules))
