-- What private functions say of their work: no promise names these.
-- Assumes nothing: these are definitions.
use Rattle.std.specs.Prelude.{ℕ, suc, ◌/◌}
use Rattle.table.specs.declared.Row.{Row}
use Rattle.table.specs.Windows.{opens}

-- the job whose window slot t is in
abbrev pub job_in : Row → ℕ → ℕ
job_in r t = suc (t / r.period)

-- where that window opens
abbrev pub start_of : Row → ℕ → ℕ
start_of r t = opens r (job_in r t)
