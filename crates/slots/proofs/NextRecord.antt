-- The next record: its clock, and what is left of its jobs.
-- Assumes nothing.
use mathlib.Core.Path.{◌≡◌, refl, sym, ap, ◌∙◌}
use mathlib.Core.Logic.{◌≢◌}
use mathlib.Core.Bool.{true, false}
use mathlib.Core.List.{List}
use Prim.Native.Nat.{ℕ, suc, ◌+◌, ◌-◌, ◌<◌}
use native.Mathlib.Omega.{arith}
use borrow.Author.Tests.{eq-eqb, ne_eqb}
use lib.ListN.{length}
use Rattle.table.specs.declared.Row.{Row}
use Rattle.table.specs.Rows.{row_at, cycle_of}
use Rattle.table.specs.Windows.{starts}
use Rattle.table.proofs.Windows.{end_start, start_end}
use Rattle.rule.proofs.Tests.{false_if}
use Rattle.reserve.specs.Tables.{ends, whole}
use Rattle.slots.specs.declared.Job.{Job}
use Rattle.slots.specs.declared.Record.{Record}
use Rattle.slots.specs.Records.{job_at}
use Rattle.slots.specs.OneSlot.{Work, alternate, worked, next_clock, renewed, step_by}
use Rattle.slots.specs.History.{is_primary, is_alternate}
use Rattle.slots.proofs.JobFacts.{alternate_units}
use Rattle.slots.proofs.Entries.{lefts_at, worked_here_alternate, worked_other, renewed_start, renewed_on}
use Rattle.slots.proofs.SoundRecord.{Usable}
use Rattle.slots.proofs.RecordClaims.{left_at, left_new}

-- ---- the clock, within the cycle and at its end
module _ (L c : ℕ) where
  pub next_goes : suc c < L → next_clock L c ≡ suc c
  unfolding next_clock
  next_goes l = rw (ne_eqb (c + 1) L (λ e. omega arith)) (omega arith)

  pub next_wraps : suc c ≡ L → next_clock L c ≡ 0
  unfolding next_clock
  next_wraps e = rw (eq-eqb (c + 1) L (omega arith))

pub step_at : (rs : List Row) (q : Record) (w : Work) (rep c : ℕ) → next_clock (cycle_of rs) q.clock ≡ c
    → step_by rs q w rep ≡ record { clock = c; jobs = renewed c rs (worked w rep rs q.jobs) }
unfolding step_by
step_at rs q w rep c e = ap (λ (x : ℕ). record { clock = x; jobs = renewed x rs (worked w rep rs q.jobs) }) e

-- ---- from slot c to the next one, with the entries js after the slot's unit
module _ (rs : List Row) (ok : Usable rs) (c : ℕ) (js : List Job) (sixteen : length js ≡ 16) where
  -- a window that goes on keeps its job
  pub goes_on : (i : ℕ) → i < length rs → suc c < ends rs i c → left_at (renewed (suc c) rs js) i ≡ left_at js i
  unfolding ends
  goes_on i row u =
      let on : starts (row_at rs i) (suc c) ≡ false = false_if (starts (row_at rs i) (suc c)) (λ h. omega (arith, start_end (row_at rs i) (ok.good i row) c h)) in
      lefts_at (renewed (suc c) rs js) i ∙ ap (λ (j : Job). j.left) (renewed_on (suc c) rs js i on) ∙ sym (lefts_at js i)

  -- where one ends, the new job has left all that the table claims
  pub turns_new : (i : ℕ) → i < length rs → ends rs i c ≡ suc c → left_at (renewed (suc c) rs js) i ≡ whole rs i (suc c)
  unfolding ends
  turns_new i row e =
      let h : starts (row_at rs i) (suc c) ≡ true = end_start (row_at rs i) (ok.good i row) c e in
      left_new rs ok.good (renewed (suc c) rs js) i (suc c) row h (renewed_start (suc c) rs js i row (omega (arith, ok.few)) h)

-- ---- an alternate unit of row r
module _ (rs : List Row) (js : List Job) (r : ℕ) (w : Work) (is : w ≡ alternate r) (rep : ℕ) where
  pub one_less : r < length js → left_at (worked w rep rs js) r ≡ left_at js r - 1
  one_less place =
      omega (
        arith,
        lefts_at (worked w rep rs js) r,
        ap (λ (v : Work). (job_at (worked v rep rs js) r).left) is,
        ap (λ (j : Job). j.left) (worked_here_alternate rep rs js r place),
        (alternate_units (job_at js r)).1,
        lefts_at js r,
      )

  pub others_same : (i : ℕ) → i ≢ r → left_at (worked w rep rs js) i ≡ left_at js i
  unfolding is_primary is_alternate
  others_same i ne =
      lefts_at (worked w rep rs js) i
      ∙ ap (λ (v : Work). (job_at (worked v rep rs js) i).left) is
      ∙ ap (λ (j : Job). j.left) (worked_other rep rs js (alternate r) i refl (ne_eqb r i (λ e. ne (sym e))))
      ∙ sym (lefts_at js i)
