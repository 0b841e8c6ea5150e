-- `slots::buffer::give_up`. The loop's invariant: in the slots so far only the rows above the place keep their bytes.
use mathlib.Core.Path.{◌≡◌}
use Prim.Native.Nat.{ℕ, ◌<◌, ◌≤◌}
use lib.ListN.{get_or}
use Rattle.slots.specs.Buffer.{above_at}
use Rattle.slots.proofs.buffer.give_up.Given as goal

abbrev pub invariant-loop-b : goal.invariant-loop-b
invariant-loop-b l = ((k : ℕ) → k < l.b-index → get_or l.b-items k 0 ≡ above_at l.place l.initial.b-items k)
    × ((k : ℕ) → l.b-index ≤ k → get_or l.b-items k 0 ≡ get_or l.initial.b-items k 0)
