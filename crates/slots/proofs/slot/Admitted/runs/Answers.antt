-- `slots::slot::Admitted::runs` meets its contract.
use Rattle.std.proofs.Common.{rules}
use Rattle.slots.proofs.Settled.{stands_holder, byte_is}
use Rattle.slots.proofs.slot.Admitted.runs.Goals as goal

pub byte_of-requires : goal.byte_of-requires
byte_of-requires c = stands_holder c.args.self.steady _ _ c.args.self.held

pub returns : goal.returns
returns c = byte_is c.args.self.steady (search rules) _ c.args.self.held _ c.waiting.ensures _ c.byte_of.ensures
