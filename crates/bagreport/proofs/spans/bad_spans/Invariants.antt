-- `bagreport::spans::bad_spans`. The loop's invariant: what is left of the list decides. The measure is how long that is.
use mathlib.Core.Path.{◌≡◌}
use lib.ListN.{length}
use Rattle.bagreport.specs.Pairs.{spans_fault}
use Rattle.bagreport.proofs.spans.bad_spans.Given as goal

abbrev pub invariant-loop-left : goal.invariant-loop-left
invariant-loop-left l = spans_fault l.slots 0 l.spans ≡ spans_fault l.slots l.previous l.left

abbrev pub decreases-loop-left : goal.decreases-loop-left
decreases-loop-left l = length l.left
