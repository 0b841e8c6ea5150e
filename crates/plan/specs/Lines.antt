-- The lines that the program prints for a table that is accepted.
-- Assumes nothing: these are definitions.
use Rattle.std.specs.Prelude.{ℕ, zero, suc, ◌≡◌, List, [], ◌∷◌, ◌++◌, length, take}
use Rattle.table.specs.declared.Row.{Row}
use Rattle.table.specs.Rows.{row_at}
use Rattle.table.specs.Windows.{opens}
use Rattle.rule.specs.Rule.{first}
use Rattle.reserve.specs.Tables.{ends, whole}
use Rattle.reserve.specs.Lists.{jobs_of}
use Rattle.plan.specs.declared.Line.{Line}

-- 'row, job, first slot': of m jobs of row i, counted from 0, from job j on
unfoldable pub job_lines : List Row → ℕ → ℕ → ℕ → List Line
job_lines rs i j zero = []
job_lines rs i j (suc m) = record { row = suc i; job = j; first = first (ends rs) (whole rs) i (opens (row_at rs i) j) } ∷ job_lines rs i (suc j) m

-- 'one line per job, rows in order': n rows from row i on
unfoldable pub row_lines : List Row → ℕ → ℕ → List Line
row_lines rs i zero = []
row_lines rs i (suc n) = job_lines rs i 1 (jobs_of rs i) ++ row_lines rs (suc i) n

unfoldable pub plan_lines : List Row → List Line
plan_lines rs = row_lines rs 0 (length rs)

-- past the last line
abbrev pub no_line : Line
no_line = record { row = 0; job = 0; first = 0 }

-- a list that stands at the start of another
abbrev pub Begins : List ℕ → List ℕ → Type 0
Begins xs list = take (length xs) list ≡ xs
