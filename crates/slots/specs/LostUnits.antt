-- Lost units: 'the sum of primary units run by jobs whose primary was aborted', over a history that starts at a record. Rows are counted from 0.
-- Assumes nothing: these are definitions.
use Rattle.std.specs.Prelude.{Option, Result, ℕ, zero, suc, ◌+◌, ◌-◌, Bool, true, false, cond, List, ltb, eqb, length}
use Rattle.refusal.specs.declared.Refusal.{Refusal}
use Rattle.refusal.specs.Order.{or_else, answer}
use Rattle.table.specs.declared.Row.{Row}
use Rattle.table.specs.declared.Table.{Table}
use Rattle.table.specs.Rows.{used, row_at}
use Rattle.table.specs.Windows.{opens, closes}
use Rattle.slots.specs.declared.State.{State}
use Rattle.slots.specs.declared.State.TheVariants.{Waiting, Failed, Done}
use Rattle.slots.specs.declared.Job.{Job}
use Rattle.slots.specs.declared.Record.{Record}
use Rattle.slots.specs.Records.{new_job, job_at, fresh_record}
use Rattle.slots.specs.Sound.{record_refusal}
use Rattle.slots.specs.OneSlot.{Work, idle, primary, alternate}
use Rattle.slots.specs.Reports.{run_of}
use Rattle.slots.specs.History.{logged, reported, primaries}

-- ---- how a job's primary ended
pub data Ending : Type 0 where
  -- it has not ended
  going : Ending
  -- it had ended when the history starts
  past : Ending
  -- it was reported done, or failed
  done failed : Ending
  -- 'Going on at the p-th unit makes it failed too, as an overrun.'
  overran : Ending
  -- its alternate began: 'its primary is aborted'
  aborted : Ending

-- with the unit that is the u-th of p, and its report
abbrev pub by_report : ℕ → ℕ → ℕ → Ending
by_report zero p u = cond (eqb u p) overran going
by_report (suc zero) p u = done
by_report (suc (suc n)) p u = failed

-- row k's, in a slot that runs w and has the report rep, after which u of its p units have run
unfoldable pub ends_by : ℕ → ℕ → Work → ℕ → ℕ → Ending
ends_by k p idle rep u = going
ends_by k p (primary i) rep u = cond (eqb i k) (by_report rep p u) going
ends_by k p (alternate i) rep u = cond (eqb i k) aborted going

-- the first ending stands
abbrev pub or_later : Ending → Ending → Ending
or_later going e = e
or_later past e = past
or_later done e = done
or_later failed e = failed
or_later overran e = overran
or_later aborted e = aborted

-- when the history starts, by the job's state there
abbrev pub ended_at : State → Ending
ended_at Waiting = going
ended_at Failed = past
ended_at Done = past

-- the primary units that row k's job has run after n slots of a history that tells of it from slot s on, where it is j
unfoldable pub units_run : (ℕ → Work) → (k s : ℕ) → Job → ℕ → ℕ
units_run works k s j n = j.run + primaries k works s (s + n)

-- how its primary, of p units, has ended in them
unfoldable pub ending_of : (ℕ → Work) → (ℕ → ℕ) → (k p s : ℕ) → Job → ℕ → Ending
ending_of works reports k p s j zero = ended_at j.state
ending_of works reports k p s j (suc n) = or_later (ending_of works reports k p s j n) (ends_by k p (works (s + n)) (reports (s + n)) (units_run works k s j (suc n)))

-- ---- the sum
-- 'jobs whose primary was aborted'
abbrev pub counts : Ending → Bool
counts going = false
counts past = false
counts done = false
counts failed = false
counts overran = false
counts aborted = true

-- f 0 + .. + f (n - 1)
unfoldable pub sum : (ℕ → ℕ) → ℕ → ℕ
sum f zero = 0
sum f (suc n) = sum f n + f n

-- job j of row k, j from 1, as a history that starts at the record q first tells of it: open in the record, or new
unfoldable pub first_seen : List Row → Record → ℕ → ℕ → Job
first_seen rs q k j = cond (ltb q.clock (opens (row_at rs k) j)) (new_job (row_at rs k)) (job_at q.jobs k)

-- the history's slot 0 is slot q .clock of the cycle
module _ (rs : List Row) (q : Record) (works : ℕ → Work) (reports : ℕ → ℕ) where
  -- the primary units of job j of row k, if it was aborted in its window. A window that had closed before the record has no slot in the history, and adds nothing;
  -- jobs are counted on past the cycle's end
  unfoldable pub lost_job : ℕ → ℕ → ℕ
  lost_job k j =
      let s : ℕ = opens (row_at rs k) j - q.clock in
      let n : ℕ = closes (row_at rs k) j - q.clock - s in
      cond (counts (ending_of works reports k (row_at rs k).primary s (first_seen rs q k j) n)) (units_run works k s (first_seen rs q k j) n) 0

  -- over each row, and each of its jobs that can open before N slots have passed; a job's window is looked at whole, and past the history's end nothing runs
  unfoldable pub lost_units : ℕ → ℕ
  lost_units N = sum (λ k. sum (λ i. lost_job k (suc i)) (q.clock + N)) (length rs)

-- ---- the answers
-- over a list from a record: 1 to 7, 9, then, slot by slot, 10 before 11
unfoldable pub lost_refusal : Table → Record → List ℕ → Option Refusal
lost_refusal t q reps = or_else (record_refusal t q) (run_of (used t) q reps).refusal

unfoldable pub lost_from : Table → Record → List ℕ → Result ℕ Refusal
lost_from t q reps = answer (lost_refusal t q reps) (lost_units (used t) q (logged (run_of (used t) q reps).log) (reported reps) (length reps))

-- 'over a fresh start and a list of reports'
unfoldable pub lost_fresh : Table → List ℕ → Result ℕ Refusal
lost_fresh t reps = lost_from t (fresh_record t) reps
