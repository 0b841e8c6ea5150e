-- `bags::form::fill_spans`: what its loop keeps.
use Rattle.bags.specs.Orders.{Spanned}
use Rattle.bags.proofs.form.fill_spans.Given as goal

abbrev pub invariant-loop-i : goal.invariant-loop-i
invariant-loop-i l = Spanned l.s l.i l.spans
