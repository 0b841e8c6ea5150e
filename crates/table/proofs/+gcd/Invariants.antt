-- `table::gcd` calls itself with the second number falling, which is the measure.
use Rattle.table.proofs.+gcd.Given as goal

abbrev pub decreases-gcd : goal.decreases-gcd
decreases-gcd l = l.y
