-- The reservation list and the first slots of a table.
-- Assumes nothing: these are definitions.
use Rattle.std.specs.Prelude.{ℕ, zero, suc, ◌/◌, List, [], ◌∷◌, ◌++◌, length}
use Rattle.table.specs.declared.Row.{Row}
use Rattle.table.specs.Rows.{row_at, cycle_of}
use Rattle.table.specs.Windows.{opens}
use Rattle.rule.specs.Rule.{first}
use Rattle.rule.specs.Sweep.{holders}
use Rattle.reserve.specs.Tables.{ends, whole}

-- 'The reservation list, which is that of the table's fresh record': for each slot of the cycle '0 for free or the row'
unfoldable pub reservation_list : List Row → List ℕ
reservation_list rs = holders (ends rs) (whole rs) (length rs) 0 (cycle_of rs)

-- how many jobs row i has in the cycle
unfoldable pub jobs_of : List Row → ℕ → ℕ
jobs_of rs i = cycle_of rs / (row_at rs i).period

-- 'The first reserved slot of a job is its notification time': of m jobs of row i, from job j on
unfoldable pub job_firsts : List Row → ℕ → ℕ → ℕ → List ℕ
job_firsts rs i j zero = []
job_firsts rs i j (suc m) = first (ends rs) (whole rs) i (opens (row_at rs i) j) ∷ job_firsts rs i (suc j) m

-- rows in order, one place for each job: n rows from row i on
unfoldable pub row_firsts : List Row → ℕ → ℕ → List ℕ
row_firsts rs i zero = []
row_firsts rs i (suc n) = job_firsts rs i 1 (jobs_of rs i) ++ row_firsts rs (suc i) n

unfoldable pub first_slots : List Row → List ℕ
first_slots rs = row_firsts rs 0 (length rs)
