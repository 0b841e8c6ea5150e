-- `bagreport::spans::bad_spans` meets its contract.
use Rattle.bagreport.proofs.SpanOrder.{fault_bad, fault_step, fault_end}
use Rattle.bagreport.proofs.spans.bad_spans.Goals as goal

pub returns-then-bad_span : goal.returns-then-bad_span
returns-then-bad_span c = search (fault_bad)

pub loop-left-preserved : goal.loop-left-preserved
loop-left-preserved c = search (fault_step)

pub returns : goal.returns
returns c = search (fault_end)
