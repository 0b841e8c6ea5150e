-- `slots::buffer::refill` meets its contract.
use native.Mathlib.Omega.{arith}
use Rattle.slots.proofs.Builds.{own_cycle}
use Rattle.slots.proofs.Refills.{freed_rowed, freed_place, refilled}
use Rattle.slots.proofs.buffer.refill.Goals as goal

pub overflow_add-place : goal.overflow_add-place
overflow_add-place c = let pre = c.requires in omega (arith, (freed_place pre.0 pre.4 (omega arith)).1)

pub hold_rows-requires : goal.hold_rows-requires
hold_rows-requires c = let pre = c.requires in (
  own_cycle pre.0,
  (freed_place pre.0 pre.4 (omega arith)).0,
  freed_rowed pre.0 pre.4 pre.1 pre.2 pre.3 c.give_up.ensures,
)

pub returns : goal.returns
returns c = search (refilled)
