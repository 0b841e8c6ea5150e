-- `plan::print_plan` meets its contract: neither answer is a refusal.
use Rattle.std.proofs.Common.{rules}
use Rattle.plan.proofs.Accepted.{is_checked, ready, is_handed, begins, counted}
use Rattle.plan.proofs.print_plan.Goals as goal

pub unwrap-cycle-requires : goal.unwrap-cycle-requires
unwrap-cycle-requires c = search (rules, is_checked)

pub unwrap-jobs-requires : goal.unwrap-jobs-requires
unwrap-jobs-requires c = search (rules, is_handed)

pub print_lines-requires : goal.print_lines-requires
print_lines-requires c = (search (rules, ready), search (rules, begins), search (rules, counted))
