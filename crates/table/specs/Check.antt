-- The refusals of a table given as rows that come before the reservation rule: 1 to 6.
-- Assumes nothing: these are definitions.
use Rattle.std.specs.Prelude.{Option, None, Result, ℕ, ◌+◌, Bool, ◌||◌, List, [], ◌∷◌, ltb, eqb}
use Rattle.refusal.specs.declared.Refusal.{Refusal}
use Rattle.refusal.specs.declared.Refusal.TheVariants.{Empty, Many, Zero, Long, Order, Cycle}
use Rattle.refusal.specs.Order.{given, or_else, answer}
use Rattle.table.specs.declared.Row.{Row}
use Rattle.table.specs.declared.Table.{Table}
use Rattle.table.specs.Rows.{used, cycle_of}

-- 3: 'a period, p or a is 0'
abbrev pub is_zero : Row → Bool
is_zero r = eqb r.period 0 || eqb r.primary 0 || eqb r.alternate 0

-- 4: 'p or a is over the period'
abbrev pub is_long : Row → Bool
is_long r = ltb r.period r.primary || ltb r.period r.alternate

-- 'in each row 3, 4, 5'; 5: 'a period is less than the one in the row before'. Row k, counted from 1, stands after a row of the period `before`
unfoldable pub fault_of : ℕ → ℕ → Row → Option Refusal
fault_of k before r =
    or_else (given (is_zero r) (Zero k)) (or_else (given (is_long r) (Long k)) (given (ltb r.period before) (Order k)))

-- 'rows from the first'; the list's first row is row k
unfoldable pub faults_of : ℕ → ℕ → List Row → Option Refusal
faults_of k before [] = None
faults_of k before (r ∷ rs) = or_else (fault_of k before r) (faults_of (k + 1) r.period rs)

-- 1: 'n is 0', 2: 'n is over 16', then the rows (no row stands before the first: 0), then 6: 'the cycle is over 4,096'
unfoldable pub rows_refusal : Table → Option Refusal
rows_refusal t =
    or_else (given (eqb t.n 0) Empty)
    (or_else (given (ltb 16 t.n) Many) (or_else (faults_of 1 0 (used t)) (given (ltb 4096 (cycle_of (used t))) Cycle)))

-- the answer: the cycle, or the refusal
unfoldable pub rows_check : Table → Result ℕ Refusal
rows_check t = answer (rows_refusal t) (cycle_of (used t))
