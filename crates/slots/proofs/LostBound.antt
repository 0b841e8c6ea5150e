-- The lost units of a list are no more than its slots and the units that were open at first: no number overflows.
-- Assumes nothing.
use mathlib.Core.Path.{◌≡◌, refl, sym, ap}
use mathlib.Core.Logic.{⊎_elim}
use mathlib.Core.Bool.{true, false}
use mathlib.Core.List.{List, [], ◌∷◌}
use Prim.Native.Nat.{ℕ, suc, ◌+◌, ◌≤◌, ◌<◌}
use native.Mathlib.Nat.{le_of_dvd}
use native.Mathlib.Omega.{arith}
use lib.ListN.{length}
use borrow.Author.Tests.{ne_eqb}
use Rattle.table.specs.declared.Row.{Row}
use Rattle.table.specs.Rows.{row_at, cycle_of}
use Rattle.table.specs.Windows.{starts}
use Rattle.table.proofs.Cycle.{cycle_multiple}
use Rattle.rule.specs.Slots.{unit}
use Rattle.rule.proofs.Tests.{split}
use Rattle.slots.specs.declared.Job.{Job}
use Rattle.slots.specs.declared.Record.{Record}
use Rattle.slots.specs.Records.{job_at}
use Rattle.slots.specs.OneSlot.{Work, idle, primary, alternate, what, worked, next_clock, renewed, step_by, step_of}
use Rattle.slots.specs.History.{is_primary}
use Rattle.slots.specs.LostUnits.{sum}
use Rattle.slots.specs.Turns.{open_of, loss_at, lost_by}
use Rattle.slots.proofs.JobFacts.{fits_units}
use Rattle.slots.proofs.Entries.{worked_length, renewed_start, renewed_on}
use Rattle.slots.proofs.SoundRecord.{Usable, Sound}
use Rattle.slots.proofs.SlotActs.{InRows, allowed_row, act_of}
use Rattle.slots.proofs.StaysSound.{what_allowed, step_sound}
use Rattle.slots.proofs.JobStory.{primary_is}
use Rattle.slots.proofs.Sums.{sum_zero, sum_one, sum_less, sum_most, sum_both}
use Rattle.slots.proofs.LostJobs.{loss_of, open_run, open_new, loss_act}
use Rattle.slots.proofs.LostRows.{loss_rows, by_none, by_more}

-- the primary units run by the rows' waiting jobs
unfoldable pub open_units : List Row → List Job → ℕ
open_units rs js = sum (λ k. open_of (job_at js k)) (length rs)

-- no work is a primary unit of two rows
one_primary : (n : ℕ) (w : Work) → ((k : ℕ) → w ≡ primary k → k < n) → sum (λ k. unit (is_primary k w)) n ≤ 1
unfolding is_primary
one_primary n idle o = omega (arith, sum_zero (λ k. unit (is_primary k idle)) n (λ k l. refl))
one_primary n (primary i) o =
    omega (arith, sum_one (λ k. unit (is_primary k (primary i))) n i (o i refl) (λ k l ne. ap unit (ne_eqb i k (λ e. ne (sym e)))), ap unit (primary_is i))
one_primary n (alternate i) o = omega (arith, sum_zero (λ k. unit (is_primary k (alternate i))) n (λ k l. refl))

module _ (rs : List Row) (ok : Usable rs) (q : Record) (s : Sound rs q) where
  module _ (rep : ℕ) where
    abbrev w : Work
    w = what rs q

    in_rows : InRows rs w
    in_rows = allowed_row rs q w (what_allowed rs q)

    abbrev c : ℕ
    c = next_clock (cycle_of rs) q.clock

    -- the entries after the slot's unit, and at the next clock
    abbrev js : List Job
    js = worked w rep rs q.jobs

    abbrev next : List Job
    next = renewed c rs js

    -- a new job has no open units
    renewed_open : (k : ℕ) → k < length rs → open_of (job_at next k) ≤ open_of (job_at js k)
    renewed_open k row =
        ⊎_elim (λ (h : starts (row_at rs k) c ≡ true).
        omega (
          arith,
          ap (λ (j : Job). open_of j) (renewed_start c rs js k row (omega (arith, row, ok.few, s.sixteen, worked_length rep rs q.jobs w)) h),
          open_new (row_at rs k),
        ))
        (λ (h : starts (row_at rs k) c ≡ false). omega (arith, ap (λ (j : Job). open_of j) (renewed_on c rs js k h)))
        (split (starts (row_at rs k) c))

    row_open : (k : ℕ) → k < length rs → loss_of (job_at q.jobs k) k w + open_of (job_at next k) ≤ open_of (job_at q.jobs k) + unit (is_primary k w)
    row_open k row =
        omega (
          arith,
          renewed_open k row,
          loss_act k w rep (row_at rs k) (job_at q.jobs k) (job_at js k) (act_of rs ok q s k row rep w (what_allowed rs q)),
        )

    -- a slot turns open units into lost ones, and adds at most one
    pub loss_open : loss_at q.jobs (what rs q) + open_units rs (step_of rs q rep).jobs ≤ suc (open_units rs q.jobs)
    unfolding open_units step_of step_by
    loss_open =
        omega (
          arith,
          loss_rows rs q.jobs w in_rows,
          sum_less (λ k. loss_of (job_at q.jobs k) k w + open_of (job_at next k)) (λ k. open_of (job_at q.jobs k) + unit (is_primary k w)) (length rs) row_open,
          sum_both (λ k. loss_of (job_at q.jobs k) k w) (λ k. open_of (job_at next k)) (length rs),
          sum_both (λ k. open_of (job_at q.jobs k)) (λ k. unit (is_primary k w)) (length rs),
          one_primary (length rs) w (λ k e. rw e at in_rows),
        )

  -- in a sound record they are few: a job has run no more units than its period, and there are no more than 16 rows
  pub open_few : cycle_of rs ≤ 4096 → open_units rs q.jobs ≤ 65536
  unfolding open_units
  open_few l =
      omega (
        arith,
        ok.few,
        sum_most (λ k. open_of (job_at q.jobs k)) 4096 (length rs)
            (λ k row.
            omega (
              arith,
              open_run (job_at q.jobs k),
              fits_units (row_at rs k) (job_at q.jobs k) (s.jobs_fit_lem k row),
              (ok.good k row).primary_fits,
              le_of_dvd ok.cycle (cycle_multiple rs k row),
            )),
      )

-- a list of reports, slot by slot
pub lost_most : (rs : List Row) → Usable rs → (q : Record) → Sound rs q → (reps : List ℕ) → lost_by rs q reps ≤ length reps + open_units rs q.jobs
lost_most rs ok q s [] = omega (arith, by_none rs q)
lost_most rs ok q s (rep ∷ reps) = omega (arith, by_more rs q rep reps, loss_open rs ok q s rep, lost_most rs ok (step_of rs q rep) (step_sound rs ok q rep s) reps)
