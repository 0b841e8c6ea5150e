-- When a record is sound.
-- Assumes nothing: these are definitions.
use Rattle.std.specs.Prelude.{Option, ℕ, Bool, not, ◌&&◌, List, map, ltb, leb, eqb, length}
use Rattle.refusal.specs.declared.Refusal.{Refusal}
use Rattle.refusal.specs.declared.Refusal.TheVariants.{Record as NotSound}
use Rattle.refusal.specs.Order.{given, or_else}
use Rattle.table.specs.declared.Row.{Row}
use Rattle.table.specs.declared.Table.{Table}
use Rattle.table.specs.Rows.{used, row_at, cycle_of}
use Rattle.rule.specs.Slots.{every}
use Rattle.rule.specs.Rule.{tight_row}
use Rattle.reserve.specs.Tables.{ends, claims}
use Rattle.reserve.specs.Check.{table_refusal}
use Rattle.slots.specs.declared.State.{State}
use Rattle.slots.specs.declared.State.TheVariants.{Waiting, Failed, Done}
use Rattle.slots.specs.declared.Job.{Job}
use Rattle.slots.specs.declared.Record.{Record}
use Rattle.slots.specs.Records.{job_at}

-- what a job of each state has, in a row with the primary time p and the alternate time a; u units run
abbrev pub state_fits : State → (p a u left : ℕ) → Bool
-- 'a waiting job has u from 0 to p-1 and a units left'
state_fits Waiting p a u left = ltb u p && eqb left a
-- 'a failed job has u from 0 to p and left from 0 to a'
state_fits Failed p a u left = leb u p && leb left a
-- 'a done job has u from 1 to p and 0 left'
state_fits Done p a u left = leb 1 u && (leb u p && eqb left 0)

unfoldable pub job_fits : Row → Job → Bool
job_fits r j = state_fits j.state r.primary r.alternate j.run j.left

-- each row's current job has what its state says; entries past the rows are not looked at
unfoldable pub jobs_fit : List Row → List Job → Bool
jobs_fit rs js = every (λ i. job_fits (row_at rs i) (job_at js i)) (length rs)

-- what is left of each entry's job
unfoldable pub lefts : List Job → List ℕ
lefts js = map (λ (j : Job). j.left) js

-- 'each current job claiming its units left and each later job of the cycle claiming a'
unfoldable pub claims_of : List Row → Record → ℕ → ℕ → ℕ
claims_of rs q = claims rs q.clock (lefts q.jobs)

-- 'A record is sound when all of these hold'
unfoldable pub sound : List Row → Record → Bool
sound rs q =
    -- 'the clock is less than the cycle'
    ltb q.clock (cycle_of rs)
    -- each job has what its state says
    && (jobs_fit rs q.jobs
    -- 'with the clock as the first usable slot, .. the reservation rule leaves no job short'
    && eqb (tight_row (ends rs) (claims_of rs q) q.clock (cycle_of rs) (length rs)) 0)

-- 1 to 7 of the table, then 9: 'the record isn't sound'
unfoldable pub record_refusal : Table → Record → Option Refusal
record_refusal t q = or_else (table_refusal t) (given (not (sound (used t) q)) NotSound)
