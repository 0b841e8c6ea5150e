-- `bench::bags::fill_spans` meets its contract.
use mathlib.Core.Path.{refl}
use Rattle.bench.specs.Bags.{even_spans}
use Rattle.bench.proofs.EvenBags.{filled_step, filled_end}
use Rattle.bench.proofs.bags.fill_spans.Goals as goal

pub loop-j-init : goal.loop-j-init
unfolding even_spans
loop-j-init c = refl

pub loop-j-preserved : goal.loop-j-preserved
loop-j-preserved c = search (filled_step)

pub returns : goal.returns
returns c = search (filled_end)
