-- The scan of a reservation list for first slots, as the code's loops meet it.
-- Assumes nothing.
use mathlib.Core.Path.{◌≡◌, refl, sym, ap, ◌∙◌}
use mathlib.Core.List.{List, [], ◌∷◌, ◌++◌}
use Prim.Native.Nat.{ℕ, suc, ◌+◌, ◌-◌, ◌*◌, ◌/◌, ◌≤◌, ◌<◌}
use native.Mathlib.Nat.{div-le_self}
use native.Mathlib.Numerals.{add-one}
use native.Mathlib.Omega.{arith}
use lib.Dec.{eqb}
use lib.ListN.{get_or, set, length, take, drop, length-append, length-set}
use lib.Seq.{sets, length-sets, take-add, drop-drop, take_at, drop_at, take_all, length-take-le}
use borrow.Author.Tests.{eq-eqb, ne_eqb}
use Rattle.refusal.proofs.Lent.{sets_more}
use Rattle.table.specs.declared.Row.{Row}
use Rattle.table.specs.declared.Table.{Table}
use Rattle.table.specs.Rows.{used, row_at, cycle_of}
use Rattle.table.specs.Windows.{opens, closes}
use Rattle.table.proofs.Cycle.{cycle_multiple}
use Rattle.table.proofs.Windows.{closes_count}
use Rattle.rule.specs.Slots.{first_of}
use Rattle.rule.specs.Rule.{first}
use Rattle.rule.proofs.First.{first_of_none, first_of_here, first_of_later, first_of_same}
use Rattle.reserve.specs.Tables.{ends, whole}
use Rattle.reserve.specs.Lists.{reservation_list, jobs_of, job_firsts, row_firsts, first_slots}
use Rattle.reserve.specs.Turns.{Ready, Listed}
use Rattle.reserve.proofs.Ready.{good, cycle_fits}
use Rattle.reserve.proofs.FirstSlots.{job_count, job_more, first_listed}

-- ---- the slots of one window: up to s none has the row's byte
pub record Missed (list : List ℕ) (row from to s : ℕ) : Type 0 where
  pub upto : s ≤ to
  pub rest : first_of (λ t. eqb (get_or list t 0) row) from (to - from) ≡ first_of (λ t. eqb (get_or list t 0) row) s (to - s)

pub missed_start : (list : List ℕ) (row from to : ℕ) → from ≤ to → Missed list row from to from
missed_start list row from to l = record { upto = l; rest = refl }

pub missed_found : {list : List ℕ} {row from to s : ℕ} → Missed list row from to s → s < to → get_or list s 0 ≡ row → s ≡ first_of (λ t. eqb (get_or list t 0) row) from (to - from)
missed_found {list} {row} {from} {to} {s} g l h =
    let q : to - s ≡ suc (to - suc s) = omega arith in
    sym (g.rest ∙ rw q (first_of_here (λ t. eqb (get_or list t 0) row) s (to - suc s) (eq-eqb (get_or list s 0) row h)))

pub missed_more : {list : List ℕ} {row from to s : ℕ} → Missed list row from to s → s < to → (get_or list s 0 ≡ row → ⊥) → Missed list row from to (s + 1)
missed_more {list} {row} {from} {to} {s} g l h =
    let q : to - s ≡ suc (to - suc s) = omega arith in
    record { upto = omega arith; rest = g.rest ∙ rw (q, add-one) (first_of_later (λ t. eqb (get_or list t 0) row) s (to - suc s) (ne_eqb (get_or list s 0) row h)) }

pub missed_all : {list : List ℕ} {row from to s : ℕ} → Missed list row from to s → to ≤ s → to ≡ first_of (λ t. eqb (get_or list t 0) row) from (to - from)
missed_all {list} {row} {from} {to} {s} g l =
    let e : s ≡ to = omega (arith, g.upto) in
    let z : to - to ≡ 0 = omega arith in
    sym (g.rest ∙ rw (e, z) (first_of_none (λ t. eqb (get_or list t 0) row) to))

-- the code's division, over the table's slice of rows
pub row_jobs : {t : Table} {cycle : ℕ} → Ready t cycle → {rs : List Row} → rs ≡ used t → (i : ℕ) → cycle / (row_at rs i).period ≡ jobs_of (used t) i
unfolding jobs_of
row_jobs r q i = rw (r.is_cycle, q)

-- the first slots of the first n rows, from row i on
abbrev Rest : List Row → ℕ → ℕ → List ℕ
Rest rs n i = row_firsts rs i (n - i)

rest_step : (rs : List Row) (n i : ℕ) → i < n → Rest rs n i ≡ job_firsts rs i 1 (jobs_of rs i) ++ Rest rs n (i + 1)
unfolding row_firsts
rest_step rs n i l =
    let q : n - i ≡ suc (n - suc i) = omega arith in
    rw (q, add-one)

rest_none : (rs : List Row) (n i : ℕ) → n ≤ i → Rest rs n i ≡ []
unfolding row_firsts
rest_none rs n i l = let q : n - i ≡ 0 = omega arith in rw q

-- ---- counting the jobs, with the rows before row i counted
pub record CountedTo (rs : List Row) (i jobs : ℕ) : Type 0 where
  pub upto : i ≤ length rs
  pub few_rows : length rs ≤ 16
  pub few_jobs : jobs ≤ i * 4096
  pub total : jobs + length (Rest rs (length rs) i) ≡ length (first_slots rs)

module _ {t : Table} {cycle : ℕ} (r : Ready t cycle) where
  pub jobs_few : (i : ℕ) → jobs_of (used t) i ≤ 4096
  unfolding jobs_of
  jobs_few i = omega (arith, r.is_cycle, cycle_fits r, div-le_self (cycle_of (used t)) (row_at (used t) i).period)

  pub count_start : length (used t) ≤ 16 → CountedTo (used t) 0 0
  unfolding first_slots
  count_start l =
      let q : length (used t) - 0 ≡ length (used t) = omega arith in
      record { upto = omega arith; few_rows = l; few_jobs = omega arith; total = rw q (omega arith) }

  pub count_step : {i jobs k : ℕ} → CountedTo (used t) i jobs → i < length (used t) → k ≡ jobs_of (used t) i → CountedTo (used t) (i + 1) (jobs + k)
  count_step {i} {jobs} {k} g l h = record {
    upto = omega arith;
    few_rows = g.few_rows;
    few_jobs = omega (arith, g.few_jobs, jobs_few i);
    total = omega (arith, g.total, ap length (rest_step (used t) (length (used t)) i l), length-append (job_firsts (used t) i 1 (jobs_of (used t) i)) (Rest (used t) (length (used t)) (i + 1)), job_count (used t) i 1 (jobs_of (used t) i));
  }

  pub count_room : {i jobs k : ℕ} → CountedTo (used t) i jobs → i < length (used t) → k ≡ jobs_of (used t) i → jobs + k ≤ length (first_slots (used t))
  count_room g l h = omega (arith, (count_step g l h).total)

  pub count_end : {i jobs : ℕ} → CountedTo (used t) i jobs → length (used t) ≤ i → jobs ≡ length (first_slots (used t))
  count_end {i} {jobs} g l = omega (arith, g.total, ap length (rest_none (used t) (length (used t)) i l))

  -- ---- one job of row i, whose period is p
  module _ {rs : List Row} (q : rs ≡ used t) (i : ℕ) (l : i < length (used t)) where
    abbrev p : ℕ
    p = (row_at rs i).period

    -- the window of the job after the first j ends with the cycle or before
    pub window_fits : (j : ℕ) → j < jobs_of (used t) i → j * p + p ≤ cycle
    unfolding jobs_of closes
    window_fits j u =
        rw q (omega (arith, r.is_cycle, closes_count (row_at (used t) i) (good r i l) (cycle_of (used t)) (suc j) (cycle_multiple (used t) i l) u))

    -- its first slot, found in the list
    pub job_first : (list : List ℕ) → Listed t cycle list → (j s : ℕ) → j < jobs_of (used t) i
        → s ≡ first_of (λ s. eqb (get_or list s 0) (i + 1)) (j * p) (j * p + p - j * p)
        → s ≡ first (ends (used t)) (whole (used t)) i (opens (row_at (used t) i) (1 + j))
    unfolding opens closes
    job_first list h j s u f =
        let a : 1 + j - 1 ≡ j = omega arith in
        let b : suc j - 1 ≡ j = omega arith in
        let n : (row_at (used t) i).period ≡ p = rw q in
        let d : suc j * p ≡ j * p + p = omega arith in
        let g : first (ends (used t)) (whole (used t)) i (j * p) ≡ first_of (λ s. eqb (get_or (reservation_list (used t)) s 0) (suc i)) (j * p) (j * p + p - j * p)
        = rw (n, b, d) at (first_listed (used t) (good r) i (suc j) l (omega arith) u) in
        f ∙ rw (n, a, add-one i)
        (first_of_same (λ s. eqb (get_or list s 0) (suc i)) (λ s. eqb (get_or (reservation_list (used t)) s 0) (suc i)) (j * p) (j * p + p - j * p)
        (λ x v y. ap (λ (z : ℕ). eqb z (suc i)) (h.bytes x (omega (arith, window_fits j u))))
        ∙ sym g)

-- ---- writing the first slots of row i from the place `at` on, with j of its jobs written
pub record PutJobs (t : Table) (i : ℕ) (old out : List ℕ) (at jobs j : ℕ) : Type 0 where
  pub upto : j ≤ jobs
  pub are : jobs ≡ jobs_of (used t) i
  pub size : length out ≡ length old
  pub done : out ≡ sets old at (job_firsts (used t) i 1 j)

pub jobs_start : (t : Table) (i : ℕ) (old : List ℕ) (at jobs : ℕ) → jobs ≡ jobs_of (used t) i → PutJobs t i old old at jobs 0
unfolding job_firsts
jobs_start t i old at jobs e = record { upto = omega arith; are = e; size = refl; done = refl }

pub jobs_step : {t : Table} {i : ℕ} {old out : List ℕ} {at jobs j : ℕ} → PutJobs t i old out at jobs j → j < jobs
    → (s : ℕ) → s ≡ first (ends (used t)) (whole (used t)) i (opens (row_at (used t) i) (1 + j)) → PutJobs t i old (set out (at + j) s) at jobs (j + 1)
jobs_step {t} {i} {old} {out} {at} {jobs} {j} g l s h = record {
  upto = omega arith;
  are = g.are;
  size = simp length-set g.size;
  done = rw (g.done, h, add-one j, job_more (used t) i 1 j) (rw n at (sets_more fs (first (ends (used t)) (whole (used t)) i (opens (row_at (used t) i) (1 + j)) ∷ []) old at));
}
  where
    fs : List ℕ
    fs = job_firsts (used t) i 1 j

    n : length fs ≡ j
    n = job_count (used t) i 1 j

-- ---- writing all rows, with the rows before row i written: they fill the places before `at`
pub record PutRows (rs : List Row) (old out : List ℕ) (at i : ℕ) : Type 0 where
  pub size : length out ≡ length old
  pub rest : drop at (first_slots rs) ≡ Rest rs (length rs) i
  pub room : at + length (Rest rs (length rs) i) ≡ length (first_slots rs)
  pub done : out ≡ sets old 0 (take at (first_slots rs))

pub rows_start : (rs : List Row) (old : List ℕ) → PutRows rs old old 0 0
unfolding first_slots
rows_start rs old = let q : length rs - 0 ≡ length rs = omega arith in record { size = refl; rest = rw q; room = rw q (omega arith); done = refl }

-- the next row has its places
pub rows_room : {rs : List Row} {old out : List ℕ} {at i : ℕ} → PutRows rs old out at i → i < length rs → at + jobs_of rs i ≤ length (first_slots rs)
rows_room {rs} {old} {out} {at} {i} g l =
    omega (arith, g.room, ap length (rest_step rs (length rs) i l), length-append (job_firsts rs i 1 (jobs_of rs i)) (Rest rs (length rs) (i + 1)), job_count rs i 1 (jobs_of rs i))

pub rows_step : {rs : List Row} {old out out' : List ℕ} {at i k : ℕ} → PutRows rs old out at i → i < length rs → k ≡ jobs_of rs i
    → out' ≡ sets out at (job_firsts rs i 1 (jobs_of rs i)) → PutRows rs old out' (at + k) (i + 1)
rows_step {rs} {old} {out} {out'} {at} {i} {k} g l h w = record {
  size = ap length w ∙ length-sets out at fs ∙ g.size;
  rest = sym (drop-drop k at all) ∙ rw split (drop_at fs later k n);
  room = omega (arith, g.room, ap length (rest_step rs (length rs) i l), length-append fs later, n);
  done = w ∙ rw g.done (rw long at (sets_more (take at all) fs old 0)) ∙ ap (sets old 0) (sym (take-add at k all ∙ ap (λ (x : List ℕ). take at all ++ x) next));
}
  where
    fs : List ℕ
    fs = job_firsts rs i 1 (jobs_of rs i)

    all : List ℕ
    all = first_slots rs

    later : List ℕ
    later = Rest rs (length rs) (i + 1)

    n : length fs ≡ k
    n = job_count rs i 1 (jobs_of rs i) ∙ sym h

    split : drop at all ≡ fs ++ later
    split = g.rest ∙ rest_step rs (length rs) i l

    next : take k (drop at all) ≡ fs
    next = rw split (take_at fs later k n)

    long : 0 + length (take at all) ≡ at
    long = omega (arith, length-take-le at all (omega (arith, g.room)))

pub rows_end : {rs : List Row} {old out : List ℕ} {at i : ℕ} → PutRows rs old out at i → length rs ≤ i → out ≡ sets old 0 (first_slots rs)
rows_end {rs} {old} {out} {at} {i} g l =
    g.done ∙ ap (sets old 0) (take_all at (first_slots rs) (omega (arith, g.room, ap length (rest_none rs (length rs) i l))))
