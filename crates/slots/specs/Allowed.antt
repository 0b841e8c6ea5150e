-- What work a slot allows, whichever waiting row a scheduler would choose. Rows are counted from 0.
-- Assumes nothing: these are definitions.
use Rattle.std.specs.Prelude.{◌≡◌, List, ℕ, zero, suc, ◌<◌, length}
use Rattle.table.specs.declared.Row.{Row}
use Rattle.slots.specs.declared.State.TheVariants.{Waiting}
use Rattle.slots.specs.declared.Job.{Job}
use Rattle.slots.specs.declared.Record.{Record}
use Rattle.slots.specs.Records.{job_at}
use Rattle.slots.specs.OneSlot.{Work, idle, primary, alternate, holder_at}

-- in a slot that no row holds: nothing, or a waiting row's primary
abbrev pub Free : List Row → List Job → Work → Type 0
Free rs js idle = Unit {0}
Free rs js (primary k) = (k < length rs) × ((job_at js k).state ≡ Waiting)
Free rs js (alternate k) = ⊥

-- in a slot with the holder h, counted from 1, 0 where there is none: the holder's alternate
abbrev pub Suits : List Row → List Job → ℕ → Work → Type 0
Suits rs js zero w = Free rs js w
Suits rs js (suc h) w = w ≡ alternate h

unfoldable pub Allowed : List Row → Record → Work → Type 0
Allowed rs q w = Suits rs q.jobs (holder_at rs q q.clock) w
