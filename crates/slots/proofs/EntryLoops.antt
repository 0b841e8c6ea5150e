-- What the loops over a record's entries come to.
-- Assumes nothing.
use mathlib.Core.Path.{◌≡◌, refl, sym, ap, ◌∙◌}
use mathlib.Core.Bool.{Bool, true, false, cond}
use mathlib.Core.List.{List, [], ◌∷◌, ◌++◌, map}
use Prim.Native.Nat.{ℕ, zero, suc, ◌+◌, ◌-◌, ◌≤◌, ◌<◌}
use native.Mathlib.Numerals.{add-one, unary_clauses}
use native.Mathlib.Omega.{arith}
use lib.ListN.{length, get_or, set, take, replicate, length-map}
use lib.Seq.{get_or-take, ext_get_or}
use Rattle.std.specs.Bool.{MatchBool}
use Rattle.std.specs.List.{zip, AllWithin, HoldsAt}
use Rattle.std.proofs.lemmas.Slice.Zip.{length-zip, get_or-zip}
use Rattle.table.specs.declared.Row.{Row}
use Rattle.table.specs.declared.Table.{Table}
use Rattle.table.specs.Rows.{used, blank, row_at}
use Rattle.table.specs.Windows.{starts}
use Rattle.rule.proofs.Tests.{never, false_if}
use Rattle.rule.proofs.Every.{every_at, every_if}
use Rattle.slots.specs.declared.Job.{Job}
use Rattle.slots.specs.Records.{new_job, no_job, job_at, fresh_jobs}
use Rattle.slots.specs.Sound.{job_fits, jobs_fit, lefts}
use Rattle.slots.specs.OneSlot.{renewed}
use Rattle.slots.proofs.Entries.{lefts_at}

-- ---- what is left of each entry
pub left_each : (js : List Job) (xs : List ℕ) → length xs ≡ length js → ((i : ℕ) → i < length xs → get_or xs i 0 ≡ (job_at js i).left) → xs ≡ lefts js
unfolding lefts
left_each js xs e h = ext_get_or 0 xs (lefts js) (e ∙ sym (length-map js (λ (j : Job). j.left))) (λ i l. h i l ∙ sym (lefts_at js i))

-- a row by its place
pub row_used : (t : Table) (i : ℕ) → i < t.n → get_or t.rows i blank ≡ row_at (used t) i
unfolding used
row_used t i l = sym (get_or-take t.n t.rows i blank l)

-- ---- the rows beside their jobs
module _ (rs : List Row) (js : List Job) (l : length rs ≤ length js) where
  both : (i : ℕ) → i < length rs → get_or (zip rs js) i (blank, no_job) ≡ (row_at rs i, job_at js i)
  both i u = get_or-zip rs js i (blank, no_job) u (omega arith)

  -- whether each fits, or which does not
  pub fits_each : (b : Bool) → MatchBool b (AllWithin (λ p. job_fits p.0 p.1 ≡ true) (zip rs js) 0 (length (zip rs js)))
      ((k : ℕ) × (k < length (zip rs js)) × HoldsAt (λ p. job_fits p.0 p.1 ≡ false) (zip rs js) k) → b ≡ jobs_fit rs js
  unfolding jobs_fit
  fits_each true h =
      sym (every_if (λ i. job_fits (row_at rs i) (job_at js i)) (length rs) (λ i u. rw (both i u) at (h i (blank, no_job) (omega arith) (omega (arith, length-zip rs js)))))
  fits_each false h =
      let u : h.0 < length rs = omega (arith, length-zip rs js) in
      sym (false_if (jobs_fit rs js) (λ e. never (every_at (λ i. job_fits (row_at rs i) (job_at js i)) (length rs) e h.0 u) (rw (both h.0 u) at (h.2 (blank, no_job)))))

-- ---- the first i rows' jobs as the clock comes to c
abbrev pub comes : List Row → ℕ → List Job → ℕ → Job
comes rs c js i = cond (starts (row_at rs i) c) (new_job (row_at rs i)) (job_at js i)

renewed_suc : (c : ℕ) (rs : List Row) (js : List Job) (i : ℕ) → i < length rs → i < length js → renewed c (take (suc i) rs) js ≡ set (renewed c (take i rs) js) i (comes rs c js i)
unfolding renewed
renewed_suc c [] js i l m = absurd (omega arith)
renewed_suc c (r ∷ rs) [] i l m = absurd (omega arith)
renewed_suc c (r ∷ rs) (j ∷ js) zero l m = refl
renewed_suc c (r ∷ rs) (j ∷ js) (suc i) l m = ap (λ (ks : List Job). cond (starts r c) (new_job r) j ∷ ks) (renewed_suc c rs js i (omega arith) (omega arith))

module _ (c : ℕ) (rs : List Row) (js xs : List Job) (i : ℕ) (e : xs ≡ renewed c (take i rs) js) where
  pub renewed_more : i < length rs → i < length js → (k : Job) → k ≡ comes rs c js i → set xs i k ≡ renewed c (take (i + 1) rs) js
  renewed_more l m k h = rw (add-one, e, h) (sym (renewed_suc c rs js i l m))

-- ---- the first i rows' jobs of a fresh record
fresh_suc : (n : ℕ) (rs : List Row) (i : ℕ) → i < length rs → i < n
    → map new_job (take (suc i) rs) ++ replicate (n - length (take (suc i) rs)) no_job ≡ set (map new_job (take i rs) ++ replicate (n - length (take i rs)) no_job) i (new_job (row_at rs i))
fresh_suc n [] i l m = absurd (omega arith)
fresh_suc zero (r ∷ rs) i l m = absurd (omega arith)
fresh_suc (suc n) (r ∷ rs) zero l m = simp unary_clauses
fresh_suc (suc n) (r ∷ rs) (suc i) l m = simp unary_clauses (ap (λ (ks : List Job). new_job r ∷ ks) (fresh_suc n rs i (omega arith) (omega arith)))

module _ (rs : List Row) (xs : List Job) (i : ℕ) (few : length rs ≤ 16) (e : xs ≡ fresh_jobs (take i rs)) where
  pub fresh_more : i < length rs → (k : Job) → k ≡ new_job (row_at rs i) → set xs i k ≡ fresh_jobs (take (i + 1) rs)
  unfolding fresh_jobs
  fresh_more l k h = rw (add-one, e, h) (sym (fresh_suc 16 rs i l (omega arith)))
