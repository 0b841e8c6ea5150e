-- The first slots of a table's jobs: the list by its places, and each read off the reservation list.
-- Assumes nothing.
use mathlib.Core.Path.{◌≡◌, refl, sym, ap, ◌∙◌}
use mathlib.Core.List.{List, [], ◌∷◌, ◌++◌}
use Prim.Native.Nat.{ℕ, zero, suc, ◌+◌, ◌-◌, ◌≤◌, ◌<◌}
use native.Mathlib.Omega.{arith}
use lib.Dec.{eqb}
use lib.ListN.{get_or, length, get_or-append}
use lib.Seq.{get_or-append-add}
use borrow.Author.Tests.{eqb-true, eq-eqb}
use Rattle.table.specs.declared.Row.{Row}
use Rattle.table.specs.Rows.{row_at, cycle_of}
use Rattle.table.specs.Windows.{opens, closes, window_end}
use Rattle.table.proofs.Cycle.{cycle_multiple}
use Rattle.table.proofs.Windows.{end_opens, opens_first, closes_count}
use Rattle.rule.specs.Slots.{first_of}
use Rattle.rule.specs.Rule.{takes, holder, first}
use Rattle.rule.proofs.Tests.{both_ways}
use Rattle.rule.proofs.First.{first_of_same}
use Rattle.rule.proofs.Holders.{holder_is, is_holder}
use Rattle.rule.proofs.HolderList.{get_or_holders}
use Rattle.reserve.specs.Tables.{ends, whole}
use Rattle.reserve.specs.Lists.{reservation_list, jobs_of, job_firsts, row_firsts, first_slots}
use Rattle.reserve.specs.Demand.{jobs_from, job_place}
use Rattle.reserve.proofs.Tables.{AllGood}

-- ---- how many
pub job_count : (rs : List Row) (i j m : ℕ) → length (job_firsts rs i j m) ≡ m
unfolding job_firsts
job_count rs i j zero = refl
job_count rs i j (suc m) = ap suc (job_count rs i (suc j) m)

-- ---- one job more
pub job_more : (rs : List Row) (i j m : ℕ) → job_firsts rs i j (suc m) ≡ job_firsts rs i j m ++ (first (ends rs) (whole rs) i (opens (row_at rs i) (j + m)) ∷ [])
unfolding job_firsts
job_more rs i j zero = let e : j + 0 ≡ j = omega arith in rw e
job_more rs i j (suc m) =
    let e : j + suc m ≡ suc j + m = omega arith in
    ap (λ (l : List ℕ). first (ends rs) (whole rs) i (opens (row_at rs i) j) ∷ l) (rw e (job_more rs i (suc j) m))

-- ---- each job's place
job_at_lem : (rs : List Row) (i k m x : ℕ) → x < m → get_or (job_firsts rs i k m) x 0 ≡ first (ends rs) (whole rs) i (opens (row_at rs i) (k + x))
unfolding job_firsts
job_at_lem rs i k zero x l = absurd (omega arith)
job_at_lem rs i k (suc m) zero l = let e : k + 0 ≡ k = omega arith in rw e
job_at_lem rs i k (suc m) (suc x) l = let e : k + suc x ≡ suc k + x = omega arith in rw e (job_at_lem rs i (suc k) m x (omega arith))

row_at_lem : (rs : List Row) (d i n x : ℕ) → d < n → x < jobs_of rs (i + d)
    → get_or (row_firsts rs i n) (jobs_from rs i d + x) 0 ≡ first (ends rs) (whole rs) (i + d) (opens (row_at rs (i + d)) (1 + x))
unfolding row_firsts jobs_from
row_at_lem rs d i zero x l u = absurd (omega arith)
row_at_lem rs zero i (suc n) x l u =
    let e : i + 0 ≡ i = omega arith in
    let z : 0 + x ≡ x = omega arith in
    let u' : x < jobs_of rs i = rw e at u in
    rw (e, z)
    (get_or-append (job_firsts rs i 1 (jobs_of rs i)) (row_firsts rs (suc i) n) 0 x (omega (arith, job_count rs i 1 (jobs_of rs i))) ∙ job_at_lem rs i 1 (jobs_of rs i) x u')
row_at_lem rs (suc d) i (suc n) x l u =
    let e : i + suc d ≡ suc i + d = omega arith in
    let u' : x < jobs_of rs (suc i + d) = rw e at u in
    let q : jobs_of rs i + jobs_from rs (suc i) d + x ≡ length (job_firsts rs i 1 (jobs_of rs i)) + (jobs_from rs (suc i) d + x) = omega (arith, job_count rs i 1 (jobs_of rs i)) in
    rw (e, q) (get_or-append-add (job_firsts rs i 1 (jobs_of rs i)) (row_firsts rs (suc i) n) (jobs_from rs (suc i) d + x) 0 ∙ row_at_lem rs d (suc i) n x (omega arith) u')

pub first_at : (rs : List Row) (i j : ℕ) → i < length rs → 1 ≤ j → j ≤ jobs_of rs i
    → get_or (first_slots rs) (job_place rs i j) 0 ≡ first (ends rs) (whole rs) i (opens (row_at rs i) j)
unfolding first_slots job_place
first_at rs i j l p u =
    let z : 0 + i ≡ i = omega arith in
    let e : 1 + (j - 1) ≡ j = omega arith in
    rw (z, e) at (row_at_lem rs i 0 (length rs) (j - 1) l (rw z (omega arith)))

module _ (rs : List Row) where
  -- the list's byte names row i exactly where the row holds the slot
  pub byte_takes : (i s : ℕ) → i < length rs → s < cycle_of rs → eqb (get_or (reservation_list rs) s 0) (suc i) ≡ takes (ends rs) (whole rs) i s
  unfolding reservation_list
  byte_takes i s l u =
      let z : 0 + s ≡ s = omega arith in
      let b : get_or (reservation_list rs) s 0 ≡ holder (ends rs) (whole rs) (length rs) s = rw z at (get_or_holders (ends rs) (whole rs) (length rs) 0 (cycle_of rs) s u) in
      both_ways (eqb (get_or (reservation_list rs) s 0) (suc i)) (takes (ends rs) (whole rs) i s)
      (λ h. (is_holder (ends rs) (whole rs) (length rs) i s (sym b ∙ eqb-true (get_or (reservation_list rs) s 0) (suc i) h)).1)
      (λ h. eq-eqb (get_or (reservation_list rs) s 0) (suc i) (b ∙ holder_is (ends rs) (whole rs) (length rs) i s l h))

  -- 'The first reserved slot of a job': that of the reservation list
  pub first_listed : AllGood rs → (i j : ℕ) → i < length rs → 1 ≤ j → j ≤ jobs_of rs i
      → first (ends rs) (whole rs) i (opens (row_at rs i) j)
      ≡ first_of (λ s. eqb (get_or (reservation_list rs) s 0) (suc i)) (opens (row_at rs i) j) (closes (row_at rs i) j - opens (row_at rs i) j)
  unfolding first ends jobs_of
  first_listed good i j l p u =
      let e : window_end (row_at rs i) (opens (row_at rs i) j) ≡ closes (row_at rs i) j = end_opens (row_at rs i) (good i l) j p in
      let w : closes (row_at rs i) j ≤ cycle_of rs = closes_count (row_at rs i) (good i l) (cycle_of rs) j (cycle_multiple rs i l) u in
      rw e
      (first_of_same (takes (ends rs) (whole rs) i) (λ s. eqb (get_or (reservation_list rs) s 0) (suc i)) (opens (row_at rs i) j) (closes (row_at rs i) j - opens (row_at rs i) j)
      (λ s a b. sym (byte_takes i s l (omega (arith, opens_first (row_at rs i) (good i l) j p)))))
