-- `bagreport::spans::desk_refusal` meets its contract.
use Rattle.bagreport.proofs.SpanOrder.{desk_row, desk_spans, desk_accepts}
use Rattle.bagreport.proofs.spans.desk_refusal.Goals as goal

pub returns-then-no_row : goal.returns-then-no_row
returns-then-no_row c = search (desk_row)

pub returns-then-bad_order : goal.returns-then-bad_order
returns-then-bad_order c = search (desk_spans)

pub returns : goal.returns
returns c = search (desk_accepts)
