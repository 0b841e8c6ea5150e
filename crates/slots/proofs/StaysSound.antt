-- A sound record stays sound: a fresh one of usable rows is sound, and so is the next one of a sound one, after any allowed work and with any report.
-- Assumes nothing.
use mathlib.Core.Path.{◌≡◌, refl, ◌∙◌}
use mathlib.Core.Logic.{⊎_elim}
use mathlib.Core.Bool.{true}
use mathlib.Core.List.{List}
use Prim.Native.Nat.{ℕ, zero, suc, ◌<◌}
use native.Mathlib.Nat.{eq-or-lt_of_le}
use native.Mathlib.Omega.{arith}
use lib.ListN.{length}
use Rattle.table.specs.declared.Row.{Row}
use Rattle.table.specs.Rows.{row_at, cycle_of}
use Rattle.table.specs.Windows.{starts}
use Rattle.table.proofs.Windows.{start_zero}
use Rattle.rule.proofs.Tests.{split, never}
use Rattle.rule.proofs.FirstRow.{FirstAt, row_first}
use Rattle.rule.proofs.Enough.{Enough, tight_enough}
use Rattle.rule.proofs.Moves.{quiet, ran}
use Rattle.reserve.specs.Tables.{ends, whole, claims}
use Rattle.reserve.specs.Check.{tight_of}
use Rattle.reserve.proofs.Tables.{windows_of, claims_of_lem}
use Rattle.reserve.proofs.FreshClaims.{fresh_tight}
use Rattle.slots.specs.declared.State.{State}
use Rattle.slots.specs.declared.State.TheVariants.{Waiting, Failed, Done}
use Rattle.slots.specs.declared.Job.{Job}
use Rattle.slots.specs.declared.Record.{Record}
use Rattle.slots.specs.Records.{new_job, job_at, fresh_jobs, fresh_of}
use Rattle.slots.specs.Sound.{job_fits, lefts, claims_of}
use Rattle.slots.specs.OneSlot.{Work, holder_at, is_waiting, lowest_waiting, unreserved, reserved, what, worked, renewed, step_by, step_of}
use Rattle.slots.specs.Allowed.{Free, Suits, Allowed}
use Rattle.slots.proofs.JobFacts.{new_fits}
use Rattle.slots.proofs.Entries.{fresh_at, fresh_sixteen, lefts_at, worked_length, renewed_length, renewed_start, renewed_on}
use Rattle.slots.proofs.SoundRecord.{Usable, Sound}
use Rattle.slots.proofs.RecordClaims.{left_at, new_unspent}
use Rattle.slots.proofs.SlotActs.{holds, no_holder, the_holder, left_less, still_fits}
use Rattle.slots.proofs.NextRecord.{next_goes, next_wraps, step_at, goes_on, turns_new, one_less, others_same}

-- ---- a record at slot 0 whose rows have new jobs, whatever stands past them
module _ (rs : List Row) (ok : Usable rs) where
  pub new_sound : (js : List Job) → length js ≡ 16 → ((i : ℕ) → i < length rs → job_at js i ≡ new_job (row_at rs i)) → Sound rs (record { clock = 0; jobs = js })
  unfolding tight_of claims_of
  new_sound js e new =
      let q : Record = record { clock = 0; jobs = js } in
      record {
        sixteen = e;
        ticks = ok.cycle;
        jobs_fit_lem = λ i row. rw (new i row) (new_fits (row_at rs i) (ok.good i row));
        enough =
            tight_enough (ends rs) (claims_of rs q) (length rs) 0 (cycle_of rs) ok.cycle
            (fresh_tight rs ok.good (lefts js) (new_unspent rs ok.good js new) (cycle_of rs) ∙ ok.roomy);
      }

  pub fresh_sound : Sound rs (fresh_of rs)
  unfolding fresh_of
  fresh_sound = new_sound (fresh_jobs rs) (fresh_sixteen rs ok.few) (fresh_at rs)

-- ---- what the three points of a slot choose is allowed
is_waiting_lem : (x : State) → is_waiting x ≡ true → x ≡ Waiting
is_waiting_lem Waiting e = refl
is_waiting_lem Failed e = never e refl
is_waiting_lem Done e = never e refl

pub what_allowed : (rs : List Row) (q : Record) → Allowed rs q (what rs q)
unfolding Allowed what lowest_waiting
what_allowed rs q = go (holder_at rs q q.clock)
  where
    lowest : (k : ℕ) → lowest_waiting rs q.jobs ≡ k → Free rs q.jobs (unreserved k)
    lowest zero e = tt
    lowest (suc k) e =
        let a : FirstAt (λ i. is_waiting (job_at q.jobs i).state) (length rs) k = row_first (λ i. is_waiting (job_at q.jobs i).state) (length rs) k e in
        (a.row, is_waiting_lem (job_at q.jobs k).state a.here)

    go : (h : ℕ) → Suits rs q.jobs h (reserved h (unreserved (lowest_waiting rs q.jobs)))
    go zero = lowest (lowest_waiting rs q.jobs) refl
    go (suc h) = refl

-- ---- the next record
module _ (rs : List Row) (ok : Usable rs) (q : Record) (w : Work) (rep : ℕ) (al : Allowed rs q w) (s : Sound rs q) where
  -- the entries after the slot's unit, and the record at the next clock c
  abbrev js : List Job
  js = worked w rep rs q.jobs

  abbrev next : ℕ → Record
  next c = record { clock = c; jobs = renewed c rs js }

  sixteen : length js ≡ 16
  sixteen = worked_length rep rs q.jobs w ∙ s.sixteen

  place : (i : ℕ) → i < length rs → i < length js
  place i row = omega (arith, sixteen, ok.few)

  -- each job fits after the slot's unit, and so does a new one in its place
  next_fits : (c i : ℕ) → i < length rs → job_fits (row_at rs i) (job_at (renewed c rs js) i) ≡ true
  next_fits c i row =
      ⊎_elim (λ h. rw (renewed_start c rs js i row (place i row) h) (new_fits (row_at rs i) (ok.good i row)))
      (λ h. rw (renewed_on c rs js i h) (still_fits rs ok q s i row rep w al)) (split (starts (row_at rs i) c))

  -- no job is short after it
  next_enough : suc q.clock < cycle_of rs → Enough (ends rs) (claims_of rs (next (suc q.clock))) (length rs) (suc q.clock) (cycle_of rs)
  unfolding Allowed claims_of claims
  next_enough lt = go (holder_at rs q q.clock) refl al
    where
      go : (h : ℕ) → holder_at rs q q.clock ≡ h → Suits rs q.jobs h w
          → Enough (ends rs) (claims_of rs (next (suc q.clock))) (length rs) (suc q.clock) (cycle_of rs)
      go zero e o =
          quiet
          (windows_of rs ok.good)
          (whole rs)
          (claims_of_lem rs ok.good)
          q.clock
          (left_at q.jobs)
          (left_at js)
          (left_at (renewed (suc q.clock) rs js))
          (goes_on rs ok q.clock js sixteen)
          (turns_new rs ok q.clock js sixteen)
          (cycle_of rs)
          (no_holder rs q q.clock e)
          (λ i row. omega (arith, lefts_at js i, lefts_at q.jobs i, left_less rs ok q s i row rep w al))
          lt
          s.enough
      go (suc r) e o =
          let found : (r < length rs) × holds rs q r q.clock = the_holder rs q q.clock r e in
          ran
          (windows_of rs ok.good)
          (whole rs)
          (claims_of_lem rs ok.good)
          q.clock
          (left_at q.jobs)
          (left_at js)
          (left_at (renewed (suc q.clock) rs js))
          (goes_on rs ok q.clock js sixteen)
          (turns_new rs ok q.clock js sixteen)
          (cycle_of rs)
          r
          found.0
          found.1
          (one_less rs q.jobs r w o rep (omega (arith, found.0, ok.few, s.sixteen)))
          (λ i row. others_same rs q.jobs r w o rep i)
          lt
          s.enough

  -- within the cycle
  goes_sound : suc q.clock < cycle_of rs → Sound rs (next (suc q.clock))
  goes_sound lt = record {
    sixteen = renewed_length (suc q.clock) rs js ∙ sixteen;
    ticks = lt;
    jobs_fit_lem = next_fits (suc q.clock);
    enough = next_enough lt;
  }

  -- at its end
  wraps_sound : Sound rs (next 0)
  wraps_sound =
      new_sound rs ok (renewed 0 rs js) (renewed_length 0 rs js ∙ sixteen)
      (λ i row. renewed_start 0 rs js i row (place i row) (start_zero (row_at rs i) (ok.good i row)))

  pub step_by_sound : Sound rs (step_by rs q w rep)
  step_by_sound =
      ⊎_elim (λ e. rw (step_at rs q w rep 0 (next_wraps (cycle_of rs) q.clock e)) wraps_sound)
      (λ l. rw (step_at rs q w rep (suc q.clock) (next_goes (cycle_of rs) q.clock l)) (goes_sound l)) (eq-or-lt_of_le s.ticks)

-- and where the slot runs what the three points say
pub step_sound : (rs : List Row) → Usable rs → (q : Record) (rep : ℕ) → Sound rs q → Sound rs (step_of rs q rep)
unfolding step_of
step_sound rs ok q rep s = step_by_sound rs ok q (what rs q) rep (what_allowed rs q) s
