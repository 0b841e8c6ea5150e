-- What runs in the slot at the clock, and what the slot leaves. Rows are counted from 0 here: row k is document 01's row k + 1.
-- Assumes nothing: these are definitions.
use Rattle.std.specs.Prelude.{ℕ, zero, suc, ◌+◌, ◌-◌, Bool, true, false, cond, List, [], ◌∷◌, eqb, length, set}
use Rattle.table.specs.declared.Row.{Row}
use Rattle.table.specs.Rows.{row_at, cycle_of}
use Rattle.table.specs.Windows.{starts}
use Rattle.rule.specs.Slots.{first_row}
use Rattle.rule.specs.Rule.{holder}
use Rattle.reserve.specs.Tables.{ends}
use Rattle.slots.specs.declared.State.{State}
use Rattle.slots.specs.declared.State.TheVariants.{Waiting, Failed, Done}
use Rattle.slots.specs.declared.Job.{Job}
use Rattle.slots.specs.declared.Record.{Record}
use Rattle.slots.specs.Records.{new_job, job_at}
use Rattle.slots.specs.Sound.{claims_of}

-- ---- what runs
-- nothing, or one unit of row k's primary or alternate
pub data Work : Type 0 where
  idle : Work
  primary : ℕ → Work
  alternate : ℕ → Work

-- 'Reservations are worked out from the record': the row that holds slot s, counted from 1; 0 where none does
unfoldable pub holder_at : List Row → Record → ℕ → ℕ
holder_at rs q s = holder (ends rs) (claims_of rs q) (length rs) s

-- a job of this state waits
abbrev pub is_waiting : State → Bool
is_waiting Waiting = true
is_waiting Failed = false
is_waiting Done = false

-- row i waits
abbrev pub waits : List Job → ℕ → Bool
waits js i = is_waiting (job_at js i).state

-- 'the lowest-numbered waiting row', counted from 1; 0 where no row waits
unfoldable pub lowest_waiting : List Row → List Job → ℕ
lowest_waiting rs js = first_row (waits js) (length rs)

-- in a slot that is not reserved: by the lowest waiting row, counted from 1, 0 for none
abbrev pub unreserved : ℕ → Work
-- 3. 'Otherwise the slot is idle.'
unreserved zero = idle
-- 2. 'Otherwise the lowest-numbered waiting row's primary runs one unit'
unreserved (suc k) = primary k

-- by the slot's holder, counted from 1, 0 for none; and otherwise w
abbrev pub reserved : ℕ → Work → Work
reserved zero w = w
-- 1. 'If the slot at the clock is reserved, its holder's alternate runs one unit'
reserved (suc k) w = alternate k

-- what runs in the slot at the clock
unfoldable pub what : List Row → Record → Work
what rs q = reserved (holder_at rs q q.clock) (unreserved (lowest_waiting rs q.jobs))

-- the log's byte: '0 idle, k for a primary unit of row k, 16+k for an alternate unit'
unfoldable pub byte_of : Work → ℕ
byte_of idle = 0
byte_of (primary k) = suc k
byte_of (alternate k) = 17 + k

-- ---- what the slot leaves
-- 'A waiting holder becomes failed: its primary is aborted.'
abbrev pub abandoned : State → State
abandoned Waiting = Failed
abandoned Failed = Failed
abandoned Done = Done

-- 'its holder's alternate runs one unit and left falls by 1'
unfoldable pub on_alternate : Job → Job
on_alternate j = record { state = abandoned j.state; run = j.run; left = j.left - 1 }

-- a primary 'runs one unit and u rises by 1', 'Then the report for that slot is read: 0 going on, 1 done, 2 failed.'
unfoldable pub on_primary : ℕ → Row → Job → Job
-- 'Going on at the p-th unit makes it failed too, as an overrun.'
on_primary zero r j = record { state = cond (eqb (j.run + 1) r.primary) Failed Waiting; run = j.run + 1; left = j.left }
-- 'Done makes the job done with 0 left'
on_primary (suc zero) r j = record { state = Done; run = j.run + 1; left = 0 }
-- 'Failed makes it failed.' No report over 2 comes here: it is refused
on_primary (suc (suc n)) r j = record { state = Failed; run = j.run + 1; left = j.left }

-- the entries after the slot's unit and its report
unfoldable pub worked : Work → ℕ → List Row → List Job → List Job
worked idle rep rs js = js
worked (primary k) rep rs js = set js k (on_primary rep (row_at rs k) (job_at js k))
worked (alternate k) rep rs js = set js k (on_alternate (job_at js k))

-- 'Then the clock rises by 1, or goes to 0 at the cycle's end'
unfoldable pub next_clock : ℕ → ℕ → ℕ
next_clock cycle c = cond (eqb (c + 1) cycle) 0 (c + 1)

-- 'and each row whose new window starts there becomes waiting with u 0 and left a'; entries past the rows stay
unfoldable pub renewed : ℕ → List Row → List Job → List Job
renewed c [] js = js
renewed c (r ∷ rs) [] = []
renewed c (r ∷ rs) (j ∷ js) = cond (starts r c) (new_job r) j ∷ renewed c rs js

-- the next record, where the slot at the clock runs w and has the report rep
unfoldable pub step_by : List Row → Record → Work → ℕ → Record
step_by rs q w rep =
    let c : ℕ = next_clock (cycle_of rs) q.clock in
    record { clock = c; jobs = renewed c rs (worked w rep rs q.jobs) }

-- and where it runs what the three points say
unfoldable pub step_of : List Row → Record → ℕ → Record
step_of rs q rep = step_by rs q (what rs q) rep
