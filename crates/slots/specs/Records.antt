-- The entries of a record, and the fresh record. Rows are counted from 0 here: row i is document 01's row i + 1.
-- Assumes nothing: these are definitions.
use Rattle.std.specs.Prelude.{ℕ, ◌-◌, cond, List, [], ◌++◌, map, length, get_or, replicate}
use Rattle.refusal.specs.Order.{accepted}
use Rattle.table.specs.declared.Row.{Row}
use Rattle.table.specs.declared.Table.{Table}
use Rattle.table.specs.Rows.{used}
use Rattle.reserve.specs.Check.{table_refusal}
use Rattle.slots.specs.declared.State.TheVariants.{Waiting}
use Rattle.slots.specs.declared.Job.{Job}
use Rattle.slots.specs.declared.Record.{Record}
use Rattle.slots.specs.declared.Started.{Started}

-- a row's job as its window starts: 'waiting with u 0 and left a'
unfoldable pub new_job : Row → Job
new_job r = record { state = Waiting; run = 0; left = r.alternate }

-- 'waiting with u 0 and left 0'
abbrev pub no_job : Job
no_job = record { state = Waiting; run = 0; left = 0 }

-- row i's current job
abbrev pub job_at : List Job → ℕ → Job
job_at js i = get_or js i no_job

-- sixteen entries: 'all jobs waiting, u 0 and left a; its entries past the table's rows are waiting with u 0 and left 0'
unfoldable pub fresh_jobs : List Row → List Job
fresh_jobs rs = map new_job rs ++ replicate (16 - length rs) no_job

-- 'A fresh record has clock 0'
unfoldable pub fresh_of : List Row → Record
fresh_of rs = record { clock = 0; jobs = fresh_jobs rs }

-- 'Where the table is refused, the fresh record has every entry so.'
unfoldable pub fresh_record : Table → Record
fresh_record t = fresh_of (cond (accepted (table_refusal t)) (used t) [])

-- the answer: the refusal, and the record beside it
unfoldable pub started_for : Table → Started
started_for t = record { refusal = table_refusal t; start = fresh_record t }
