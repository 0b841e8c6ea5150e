-- `plan::main` meets its contract.
use Rattle.std.proofs.Common.{rules}
use Rattle.tablefile.proofs.RoundTrips.{was_read}
use Rattle.plan.proofs.main.Goals as goal

pub print_plan-requires : goal.print_plan-requires
print_plan-requires c = search (rules, was_read)
