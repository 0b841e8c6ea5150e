-- The entries of a record by their places: the fresh ones, and what a slot's unit and the windows that start after it do to them.
-- Assumes nothing.
use mathlib.Core.Path.{◌≡◌, refl, sym, ap, ◌∙◌}
use mathlib.Core.Bool.{true, false}
use mathlib.Core.List.{List, [], ◌∷◌, ◌++◌, map}
use Prim.Native.Nat.{ℕ, zero, suc, ◌+◌, ◌-◌, ◌≤◌, ◌<◌}
use native.Mathlib.Omega.{arith}
use lib.ListN.{length, get_or, replicate, length-append, length-map, length-replicate, get_or-replicate, length-set, get_or-append, get_or-map}
use lib.Seq.{get_or-set_same, get_or-set_other, get_or-append-add}
use borrow.Author.Tests.{eqb-false}
use Rattle.table.specs.declared.Row.{Row}
use Rattle.table.specs.Rows.{blank, row_at}
use Rattle.table.specs.Windows.{starts}
use Rattle.slots.specs.declared.Job.{Job}
use Rattle.slots.specs.Records.{new_job, no_job, job_at, fresh_jobs}
use Rattle.slots.specs.Sound.{lefts}
use Rattle.slots.specs.OneSlot.{Work, idle, primary, alternate, on_primary, on_alternate, worked, renewed}
use Rattle.slots.specs.History.{is_primary, is_alternate}

-- ---- the fresh entries
pub fresh_at : (rs : List Row) (i : ℕ) → i < length rs → job_at (fresh_jobs rs) i ≡ new_job (row_at rs i)
unfolding fresh_jobs new_job
fresh_at rs i l =
    get_or-append (map new_job rs) (replicate (16 - length rs) no_job) no_job i (omega (arith, length-map rs new_job)) ∙ get_or-map new_job rs i blank

-- past the rows there are no jobs
pub fresh_past : (rs : List Row) (i : ℕ) → length rs ≤ i → i < 16 → job_at (fresh_jobs rs) i ≡ no_job
unfolding fresh_jobs
fresh_past rs i l u =
    let e : i ≡ length (map new_job rs) + (i - length rs) = omega (arith, length-map rs new_job) in
    ap (λ (k : ℕ). get_or (map new_job rs ++ replicate (16 - length rs) no_job) k no_job) e
    ∙ get_or-append-add (map new_job rs) (replicate (16 - length rs) no_job) (i - length rs) no_job
    ∙ get_or-replicate (16 - length rs) (i - length rs) no_job no_job (omega arith)

pub fresh_sixteen : (rs : List Row) → length rs ≤ 16 → length (fresh_jobs rs) ≡ 16
unfolding fresh_jobs
fresh_sixteen rs l =
    omega (arith, length-append (map new_job rs) (replicate (16 - length rs) no_job), length-map rs new_job, length-replicate (16 - length rs) no_job)

-- ---- what is left of each job
pub lefts_at : (js : List Job) (i : ℕ) → get_or (lefts js) i 0 ≡ (job_at js i).left
unfolding lefts
lefts_at js i = get_or-map (λ (j : Job). j.left) js i no_job

-- ---- after the slot's unit: the entry of the row that ran, and each other
module _ (rep : ℕ) (rs : List Row) (js : List Job) where
  pub worked_here_primary : (k : ℕ) → k < length js → job_at (worked (primary k) rep rs js) k ≡ on_primary rep (row_at rs k) (job_at js k)
  unfolding worked
  worked_here_primary k l = get_or-set_same js k (on_primary rep (row_at rs k) (job_at js k)) no_job l

  pub worked_here_alternate : (k : ℕ) → k < length js → job_at (worked (alternate k) rep rs js) k ≡ on_alternate (job_at js k)
  unfolding worked
  worked_here_alternate k l = get_or-set_same js k (on_alternate (job_at js k)) no_job l

  pub worked_other : (w : Work) (i : ℕ) → is_primary i w ≡ false → is_alternate i w ≡ false → job_at (worked w rep rs js) i ≡ job_at js i
  unfolding worked is_primary is_alternate
  worked_other idle i g h = refl
  worked_other (primary k) i g h = get_or-set_other js k i (on_primary rep (row_at rs k) (job_at js k)) no_job (λ e. eqb-false k i g (sym e))
  worked_other (alternate k) i g h = get_or-set_other js k i (on_alternate (job_at js k)) no_job (λ e. eqb-false k i h (sym e))

  pub worked_length : (w : Work) → length (worked w rep rs js) ≡ length js
  unfolding worked
  worked_length idle = refl
  worked_length (primary k) = length-set js k (on_primary rep (row_at rs k) (job_at js k))
  worked_length (alternate k) = length-set js k (on_alternate (job_at js k))

-- ---- at the next clock c: where a row's window starts there is a new job, each other entry stays
pub renewed_length : (c : ℕ) (rs : List Row) (js : List Job) → length (renewed c rs js) ≡ length js
unfolding renewed
renewed_length c [] js = refl
renewed_length c (r ∷ rs) [] = refl
renewed_length c (r ∷ rs) (j ∷ js) = ap suc (renewed_length c rs js)

pub renewed_start : (c : ℕ) (rs : List Row) (js : List Job) (i : ℕ) → i < length rs → i < length js → starts (row_at rs i) c ≡ true
    → job_at (renewed c rs js) i ≡ new_job (row_at rs i)
unfolding renewed
renewed_start c [] js i l m h = absurd (omega arith)
renewed_start c (r ∷ rs) [] i l m h = absurd (omega arith)
renewed_start c (r ∷ rs) (j ∷ js) zero l m h = rw h
renewed_start c (r ∷ rs) (j ∷ js) (suc i) l m h = renewed_start c rs js i (omega arith) (omega arith) h

pub renewed_on : (c : ℕ) (rs : List Row) (js : List Job) (i : ℕ) → starts (row_at rs i) c ≡ false → job_at (renewed c rs js) i ≡ job_at js i
unfolding renewed
renewed_on c [] js i h = refl
renewed_on c (r ∷ rs) [] i h = refl
renewed_on c (r ∷ rs) (j ∷ js) zero h = rw h
renewed_on c (r ∷ rs) (j ∷ js) (suc i) h = renewed_on c rs js i h

pub renewed_past : (c : ℕ) (rs : List Row) (js : List Job) (i : ℕ) → length rs ≤ i → job_at (renewed c rs js) i ≡ job_at js i
unfolding renewed
renewed_past c [] js i l = refl
renewed_past c (r ∷ rs) [] i l = refl
renewed_past c (r ∷ rs) (j ∷ js) zero l = absurd (omega arith)
renewed_past c (r ∷ rs) (j ∷ js) (suc i) l = renewed_past c rs js i (omega arith)
