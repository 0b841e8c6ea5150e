-- When each refusal of a table given as rows is given, in the words of document 01's table 'Numbers of refusal' and of its order: 'The first that applies is given, and a
-- later one only if no earlier one applies.' The chain of tests that the code meets is not in it. Rows are counted from 0 here: row i is document 01's row i + 1.
-- Assumes nothing: these are definitions.
use Rattle.std.specs.Prelude.{Option, Some, None, ◌≡◌, ◌⊎◌, List, ℕ, zero, suc, ◌≤◌, ◌<◌, length}
use Rattle.refusal.specs.declared.Refusal.{Refusal}
use Rattle.refusal.specs.declared.Refusal.TheVariants.{Empty, Many, Zero, Long, Order, Cycle, Tight, Room, Record, Report, Stray, Size, Version, Dosing, Spans}
use Rattle.table.specs.declared.Row.{Row}
use Rattle.table.specs.declared.Table.{Table}
use Rattle.table.specs.Rows.{used, row_at, cycle_of}
use Rattle.reserve.specs.Demand.{ShortJob, TightAt}

-- ---- what is refused in a row
-- 3: 'a period, p or a is 0'
abbrev pub ZeroRow : Row → Type 0
ZeroRow r = (r.period ≡ 0) ⊎ (r.primary ≡ 0) ⊎ (r.alternate ≡ 0)

-- 4: 'p or a is over the period'
abbrev pub LongRow : Row → Type 0
LongRow r = (r.period < r.primary) ⊎ (r.period < r.alternate)

-- 5: 'a period is less than the one in the row before'; no row stands before the first
unfoldable pub EarlyRow : List Row → ℕ → Type 0
EarlyRow rs zero = ⊥
EarlyRow rs (suc i) = (row_at rs (suc i)).period < (row_at rs i).period

-- nothing is refused in row i
pub record ClearRow (rs : List Row) (i : ℕ) : Type 0 where
  pub not_zero : ZeroRow (row_at rs i) → ⊥
  pub not_long : LongRow (row_at rs i) → ⊥
  pub not_early : EarlyRow rs i → ⊥

-- 'then rows from the first': row i is one of the rows, and nothing is refused in a row before it
pub record Reached (rs : List Row) (i : ℕ) : Type 0 where
  pub row : i < length rs
  pub before : (k : ℕ) → k < i → ClearRow rs k

-- nothing is refused in any row
abbrev pub AllClear : List Row → Type 0
AllClear rs = (k : ℕ) → k < length rs → ClearRow rs k

-- ---- what is refused in a table
-- neither 1 nor 2
abbrev pub Counted : Table → Type 0
Counted t = (1 ≤ t.n) × (t.n ≤ 16)

-- 'The answer names a row': row k, counted from 1, is reached, and `What` says what is refused in it
pub record RowGives (t : Table) (k : ℕ) (What : ℕ → Type 0) : Type 0 where
  pub counted : Counted t
  pub i : ℕ
  pub named : k ≡ suc i
  pub reached : Reached (used t) i
  pub what : What i

-- the refusal is given exactly when, of the entries that refuse a table by 1 to 6 alone
unfoldable pub RowsGives : Table → Option Refusal → Type 0
RowsGives t None = Counted t × AllClear (used t) × (cycle_of (used t) ≤ 4096)
-- 1: 'n is 0'
RowsGives t (Some Empty) = t.n ≡ 0
-- 2: 'n is over 16'
RowsGives t (Some Many) = 16 < t.n
-- 'in each row 3, 4, 5'
RowsGives t (Some (Zero k)) = RowGives t k (λ i. ZeroRow (row_at (used t) i))
RowsGives t (Some (Long k)) = RowGives t k (λ i. (ZeroRow (row_at (used t) i) → ⊥) × LongRow (row_at (used t) i))
RowsGives t (Some (Order k)) = RowGives t k (λ i. (ZeroRow (row_at (used t) i) → ⊥) × (LongRow (row_at (used t) i) → ⊥) × EarlyRow (used t) i)
-- 'then 6': 'the cycle is over 4,096'
RowsGives t (Some Cycle) = Counted t × AllClear (used t) × (4096 < cycle_of (used t))
-- the others are not about rows and their cycle
RowsGives t (Some (Tight k)) = ⊥
RowsGives t (Some Room) = ⊥
RowsGives t (Some Record) = ⊥
RowsGives t (Some Report) = ⊥
RowsGives t (Some Stray) = ⊥
RowsGives t (Some Size) = ⊥
RowsGives t (Some Version) = ⊥
RowsGives t (Some Dosing) = ⊥
RowsGives t (Some Spans) = ⊥

-- and of those that refuse it by 7 too
unfoldable pub TableGives : Table → Option Refusal → Type 0
TableGives t None = RowsGives t None × ((i j : ℕ) → i < length (used t) → ShortJob (used t) i j → ⊥)
-- 1 to 6
TableGives t (Some Empty) = RowsGives t (Some Empty)
TableGives t (Some Many) = RowsGives t (Some Many)
TableGives t (Some (Zero k)) = RowsGives t (Some (Zero k))
TableGives t (Some (Long k)) = RowsGives t (Some (Long k))
TableGives t (Some (Order k)) = RowsGives t (Some (Order k))
TableGives t (Some Cycle) = RowsGives t (Some Cycle)
-- 'then 7': 'the reservation rule leaves a job short', and the first row with such a job is named
TableGives t (Some (Tight k)) = RowsGives t None × ((i : ℕ) × (k ≡ suc i) × TightAt (used t) i)
-- the others are not about a table
TableGives t (Some Room) = ⊥
TableGives t (Some Record) = ⊥
TableGives t (Some Report) = ⊥
TableGives t (Some Stray) = ⊥
TableGives t (Some Size) = ⊥
TableGives t (Some Version) = ⊥
TableGives t (Some Dosing) = ⊥
TableGives t (Some Spans) = ⊥

-- ---- what is refused where a list is handed out: `new` is the list, `old` what the lent output holds
unfoldable pub HandedGives : Table → List ℕ → List ℕ → Option Refusal → Type 0
HandedGives t new old None = TableGives t None × (length new ≤ length old)
-- 8, after 1 to 7: 'a lent output is shorter than its use'
HandedGives t new old (Some Room) = TableGives t None × (length old < length new)
-- 1 to 7
HandedGives t new old (Some Empty) = TableGives t (Some Empty)
HandedGives t new old (Some Many) = TableGives t (Some Many)
HandedGives t new old (Some (Zero k)) = TableGives t (Some (Zero k))
HandedGives t new old (Some (Long k)) = TableGives t (Some (Long k))
HandedGives t new old (Some (Order k)) = TableGives t (Some (Order k))
HandedGives t new old (Some Cycle) = TableGives t (Some Cycle)
HandedGives t new old (Some (Tight k)) = TableGives t (Some (Tight k))
-- the others are not about a list that is handed out
HandedGives t new old (Some Record) = ⊥
HandedGives t new old (Some Report) = ⊥
HandedGives t new old (Some Stray) = ⊥
HandedGives t new old (Some Size) = ⊥
HandedGives t new old (Some Version) = ⊥
HandedGives t new old (Some Dosing) = ⊥
HandedGives t new old (Some Spans) = ⊥
