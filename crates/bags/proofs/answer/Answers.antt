-- `bags::answer` meets its contract.
use native.Mathlib.Omega.{arith}
use lib.ListN.{length-take}
use Rattle.std.proofs.Common.{rules}
use Rattle.tablefile.proofs.RoundTrips.{was_read}
use Rattle.bags.proofs.answer.Goals as goal

pub report_on-requires : goal.report_on-requires
report_on-requires c = (search (rules, was_read), simp length-take (omega arith))
