-- `table::join` meets its contract.
use Rattle.table.proofs.Capped.{divisor_pos, joined_under, joined_over}
use Rattle.table.proofs.join.Goals as goal

pub nonzero_div-m : goal.nonzero_div-m
nonzero_div-m c = search (divisor_pos)

pub returns-then-m-le4096 : goal.returns-then-m-le4096
returns-then-m-le4096 c = search (joined_under)

pub returns-else-m-le4096 : goal.returns-else-m-le4096
returns-else-m-le4096 c = search (joined_over)
