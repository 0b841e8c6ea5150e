-- `replay::main` meets its contract.
use Rattle.tablefile.proofs.RoundTrips.{was_read}
use Rattle.std.proofs.Common.{rules}
use Rattle.replay.proofs.main.Goals as goal

pub replay-requires : goal.replay-requires
replay-requires c = search (rules, was_read)

pub print_end-requires : goal.print_end-requires
print_end-requires c = (search (rules, was_read), search rules)
