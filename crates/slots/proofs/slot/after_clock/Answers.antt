-- `slots::slot::after_clock` meets its contract.
use mathlib.Core.Path.{refl}
use Prim.Native.Nat.{◌<◌}
use native.Mathlib.Omega.{arith}
use lib.ListN.{length}
use Rattle.slots.specs.OneSlot.{renewed}
use Rattle.slots.proofs.Openings.{row_period}
use Rattle.slots.proofs.EntryLoops.{renewed_more}
use Rattle.slots.proofs.slot.after_clock.Goals as goal

pub loop-i-init : goal.loop-i-init
unfolding renewed
loop-i-init c = refl

pub come-requires : goal.come-requires
come-requires c = search (row_period)

pub loop-i-preserved : goal.loop-i-preserved
loop-i-preserved c = let room : c.loop-i.i < length c.args.jobs = omega arith in search (renewed_more)
