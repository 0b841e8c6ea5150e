-- What a slot does to one row's job. Nothing here knows of tables, records or reservations.
-- Assumes nothing.
use mathlib.Core.Path.{◌≡◌}
use mathlib.Core.Bool.{false}
use Prim.Native.Nat.{ℕ, ◌<◌}
use Rattle.table.specs.declared.Row.{Row}
use Rattle.slots.specs.declared.State.TheVariants.{Waiting}
use Rattle.slots.specs.declared.Job.{Job}
use Rattle.slots.specs.OneSlot.{Work, primary, alternate, on_primary, on_alternate}
use Rattle.slots.specs.History.{is_primary, is_alternate}

-- a slot with the work w and the report rep, for the job j of row k, whose row is r: nothing, a primary unit of a waiting job, or an alternate unit that is left
pub data Act (k : ℕ) (w : Work) (rep : ℕ) (r : Row) (j j' : Job) : Type 0 where
  rests : is_primary k w ≡ false → is_alternate k w ≡ false → j' ≡ j → Act k w rep r j j'
  tries : w ≡ primary k → j.state ≡ Waiting → j' ≡ on_primary rep r j → Act k w rep r j j'
  falls_back : w ≡ alternate k → 0 < j.left → j' ≡ on_alternate j → Act k w rep r j j'
