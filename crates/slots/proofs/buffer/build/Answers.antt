-- `slots::buffer::build` meets its contract.
use native.Mathlib.Omega.{arith}
use Rattle.slots.proofs.Builds.{own_cycle, cleared, cleared_rowed}
use Rattle.slots.proofs.buffer.build.Goals as goal

pub hold_rows-requires : goal.hold_rows-requires
hold_rows-requires c =
    let pre = c.requires in
    (own_cycle pre.0, omega arith, cleared_rowed pre.0 pre.1 (cleared _ _ _ pre.2 (c.fill.ensures.after (λ y e. e))) pre.2)
