-- `slots::slot::next_record` meets its contract.
use Rattle.slots.specs.OneSlot.{next_clock}
use Rattle.slots.proofs.Settled.{record_next}
use Rattle.slots.proofs.slot.next_record.Goals as goal

pub returns : goal.returns
unfolding next_clock
returns c = search (record_next)
