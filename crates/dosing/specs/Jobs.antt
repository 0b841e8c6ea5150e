-- How a row's jobs were dosed, over what ran and what was reported since a fresh start. Rows are counted from 0, a row's jobs from 1.
-- Assumes nothing: these are definitions.
use Rattle.std.specs.Prelude.{ℕ, suc, ◌-◌, Bool, true, false, not, ◌&&◌, List, ltb, leb}
use Rattle.table.specs.declared.Row.{Row}
use Rattle.table.specs.Rows.{row_at}
use Rattle.table.specs.Windows.{opens, closes}
use Rattle.rule.specs.Slots.{within}
use Rattle.slots.specs.Records.{new_job}
use Rattle.slots.specs.OneSlot.{Work}
use Rattle.slots.specs.LostUnits.{Ending, going, past, done, failed, overran, aborted, ending_of}

-- 'by primary': its primary was reported done
abbrev pub by_primary : Ending → Bool
by_primary going = false
by_primary past = false
by_primary done = true
by_primary failed = false
by_primary overran = false
by_primary aborted = false

-- 'by alternate': by demand 3 there is no third way for a job whose deadline has come
abbrev pub by_alternate : Ending → Bool
by_alternate e = not (by_primary e)

-- 'those reported failed or overrun'; an aborted job is not one of them
abbrev pub fell : Ending → Bool
fell going = false
fell past = false
fell done = false
fell failed = true
fell overran = true
fell aborted = false

-- 'all'
abbrev pub any : Ending → Bool
any e = true

module _ (rs : List Row) (works : ℕ → Work) (reports : ℕ → ℕ) where
  -- how the primary of job j of row k ended in its window
  unfoldable pub ending_at : ℕ → ℕ → Ending
  ending_at k j =
      let r : Row = row_at rs k in
      ending_of works reports k r.primary (opens r j) (new_job r) (closes r j - opens r j)

  -- how many of 'the row's jobs whose deadline is after' slot s 'and no later than' slot e ended so. No job past the e-th is one: each window has a slot of its own
  unfoldable pub jobs_due : (Ending → Bool) → (k s e : ℕ) → ℕ
  jobs_due test k s e = within (λ j. ltb s (closes (row_at rs k) j) && (leb (closes (row_at rs k) j) e && test (ending_at k j))) 1 (suc e)
