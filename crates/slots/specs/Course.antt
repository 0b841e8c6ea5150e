-- A course: slots of allowed work, one after the other, whichever work is chosen.
-- Assumes nothing: these are definitions.
use Rattle.std.specs.Prelude.{◌≡◌, List, ℕ, suc, ◌<◌}
use Rattle.table.specs.declared.Row.{Row}
use Rattle.slots.specs.declared.Record.{Record}
use Rattle.slots.specs.OneSlot.{Work, step_by}
use Rattle.slots.specs.Allowed.{Allowed}

-- N slots from the record q: slot t, the t-th since q, finds the record recs t, runs works t and has the report reports t
pub record Course (rs : List Row) (q : Record) (N : ℕ) (recs : ℕ → Record) (works : ℕ → Work) (reports : ℕ → ℕ) : Type 0 where
  pub begins : recs 0 ≡ q
  pub allowed : (t : ℕ) → t < N → Allowed rs (recs t) (works t)
  pub goes : (t : ℕ) → t < N → recs (suc t) ≡ step_by rs (recs t) (works t) (reports t)
