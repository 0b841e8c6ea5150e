-- The terms of demand 2's static part: what document 01 says of a table's reservations, job by job, with no sweep and no code in it.
-- Assumes nothing: these are definitions.
use Rattle.std.specs.Prelude.{◌≡◌, ◌≢◌, Bool, List, ℕ, zero, suc, ◌+◌, ◌-◌, ◌≤◌, ◌<◌, eqb, length, get_or}
use Rattle.table.specs.declared.Row.{Row}
use Rattle.table.specs.Rows.{row_at, cycle_of}
use Rattle.table.specs.Windows.{opens, closes}
use Rattle.rule.specs.Rule.{between, held}
use Rattle.rule.specs.Words.{above, Reserves}
use Rattle.reserve.specs.Tables.{ends, whole}
use Rattle.reserve.specs.Lists.{jobs_of}

-- job j of row i, j from 1, is a job of the cycle
abbrev pub InCycle : List Row → ℕ → ℕ → Type 0
InCycle rs i j = (1 ≤ j) × (closes (row_at rs i) j ≤ cycle_of rs)

-- 'Take the rows from row 1 down. Each job reserves the latest a slots of its window that no higher row holds.' A i s says that row i, counted from 0, reserves slot s
unfoldable pub Assigned : List Row → (ℕ → ℕ → Bool) → Type 0
Assigned rs A =
    (i j : ℕ) → i < length rs → InCycle rs i j → Reserves (above A i) (A i) (opens (row_at rs i) j) (closes (row_at rs i) j) (row_at rs i).alternate

-- the assignment that a list of bytes says, '0 for free or the row'
abbrev pub listed : List ℕ → ℕ → ℕ → Bool
listed list i s = eqb (get_or list s 0) (suc i)

-- 'a window has fewer such slots': the rule leaves job j of row i short
unfoldable pub ShortJob : List Row → ℕ → ℕ → Type 0
ShortJob rs i j = InCycle rs i j × (between (held (ends rs) (whole rs) i) (opens (row_at rs i) j) (closes (row_at rs i) j) < (row_at rs i).alternate)

-- 'the table is tight at that row, and the first such row is named': row i, counted from 0
pub record TightAt (rs : List Row) (i : ℕ) : Type 0 where
  pub row : i < length rs
  pub short : (j : ℕ) × ShortJob rs i j
  pub first : (k j : ℕ) → k < i → ShortJob rs k j → ⊥

-- how many jobs of the cycle d rows have, from row i on
unfoldable pub jobs_from : List Row → ℕ → ℕ → ℕ
jobs_from rs i zero = 0
jobs_from rs i (suc d) = jobs_of rs i + jobs_from rs (suc i) d

-- where job j of row i stands among the first slots, places counted from 0: after the jobs of the rows above and the row's own j - 1 before it
unfoldable pub job_place : List Row → ℕ → ℕ → ℕ
job_place rs i j = jobs_from rs 0 i + (j - 1)

-- 'The first reserved slot of a job': of the row that a list names by the byte k, in the window from w up to, not including, e
pub record FirstReserved (list : List ℕ) (k w e s : ℕ) : Type 0 where
  pub from : w ≤ s
  pub before : s < e
  pub reserved : get_or list s 0 ≡ k
  pub none_earlier : (t : ℕ) → w ≤ t → t < s → get_or list t 0 ≢ k
