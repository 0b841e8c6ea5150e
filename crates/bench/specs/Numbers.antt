-- A run's answer as numbers, for one that reads it from outside.
-- Assumes nothing: these are definitions.
use Rattle.std.specs.Prelude.{ℕ, ◌+◌, ◌*◌, cond, ltb}
use Rattle.slots.specs.declared.State.{State}
use Rattle.slots.specs.declared.State.TheVariants.{Waiting, Failed, Done}
use Rattle.slots.specs.declared.Job.{Job}
use Rattle.slots.specs.declared.Ran.{Ran}
use Rattle.slots.specs.Records.{job_at}

unfoldable pub state_number : State → ℕ
state_number Waiting = 0
state_number Failed = 1
state_number Done = 2

-- no two jobs have the same one: a state is less than 3, and the units run less than 65,536
unfoldable pub job_number : Job → ℕ
job_number j = (j.left * 65536 + j.run) * 3 + state_number j.state

-- row i's job, past the sixteen rows the clock, and past it the slots accepted
unfoldable pub figure_of : Ran → ℕ → ℕ
figure_of ran i = cond (ltb i 16) (job_number (job_at ran.next.jobs i)) (cond (ltb i 17) ran.next.clock ran.slots)
