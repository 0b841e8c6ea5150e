-- The rows of a table, and the cycle.
-- Assumes nothing: these are definitions.
use Rattle.std.specs.Prelude.{ℕ, List, [], ◌∷◌, take, get_or, cond, leb, Option, Some, None}
use Rattle.table.specs.declared.Row.{Row}
use Rattle.table.specs.declared.Table.{Table}
use Rattle.table.specs.Gcd.{lcm_of}

-- the n rows; of the places past them, 'in a table given as rows they are ignored'
unfoldable pub used : Table → List Row
used t = take t.n t.rows

abbrev pub blank : Row
blank = record { period = 0; primary = 0; alternate = 0 }

-- row i, counted from 0: document 01's row i + 1
abbrev pub row_at : List Row → ℕ → Row
row_at rs i = get_or rs i blank

-- the least common multiple of c and the periods
unfoldable pub fold_of : ℕ → List Row → ℕ
fold_of c [] = c
fold_of c (r ∷ rs) = fold_of (lcm_of c r.period) rs

-- 'The cycle is the least common multiple of the periods'
unfoldable pub cycle_of : List Row → ℕ
cycle_of rs = fold_of 1 rs

-- 'the cycle is over 4,096' is a refusal: a number of slots that a cycle may have
abbrev pub within_cycle : ℕ → Option ℕ
within_cycle m = cond (leb m 4096) (Some m) None
