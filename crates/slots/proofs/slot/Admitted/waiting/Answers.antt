-- `slots::slot::Admitted::waiting` meets its contract.
use native.Mathlib.Omega.{arith}
use Rattle.slots.proofs.Settled.{stands_few}
use Rattle.slots.proofs.slot.Admitted.waiting.Goals as goal

pub awaited_rows-requires : goal.awaited_rows-requires
awaited_rows-requires c = omega (arith, stands_few c.args.self.steady)
