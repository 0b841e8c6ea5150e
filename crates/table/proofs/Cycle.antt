-- The cycle is the least common multiple of the periods.
-- Assumes nothing.
use mathlib.Core.List.{List, [], ◌∷◌}
use Prim.Native.Nat.{ℕ, zero, suc, ◌≤◌, ◌<◌, ◌∣◌}
use native.Mathlib.Nat.{dvd_refl, dvd_trans, one-dvd, pos_of_dvd_of_pos, le_of_dvd}
use native.Mathlib.Omega.{arith}
use lib.ListN.{length}
use Rattle.table.specs.declared.Row.{Row}
use Rattle.table.specs.Gcd.{lcm_of}
use Rattle.table.specs.Rows.{row_at, fold_of, cycle_of}
use Rattle.table.proofs.Euclid.{lcm_left, lcm_right, lcm_least, lcm_pos}

-- ---- the fold of the periods over any start c
fold_first : (c : ℕ) (rs : List Row) → c ∣ fold_of c rs
unfolding fold_of
fold_first c [] = dvd_refl c
fold_first c (r ∷ rs) = dvd_trans c (lcm_left c r.period) (fold_first (lcm_of c r.period) rs)

fold_multiple : (c : ℕ) (rs : List Row) (i : ℕ) → i < length rs → (row_at rs i).period ∣ fold_of c rs
unfolding fold_of
fold_multiple c [] i l = absurd (omega arith)
fold_multiple c (r ∷ rs) zero l = dvd_trans r.period (lcm_right c r.period) (fold_first (lcm_of c r.period) rs)
fold_multiple c (r ∷ rs) (suc i) l = fold_multiple (lcm_of c r.period) rs i (omega arith)

fold_least : (c : ℕ) (rs : List Row) (m : ℕ) → 0 < m → c ∣ m → ((i : ℕ) → i < length rs → (row_at rs i).period ∣ m) → fold_of c rs ∣ m
unfolding fold_of
fold_least c [] m p d h = d
fold_least c (r ∷ rs) m p d h =
    fold_least
    (lcm_of c r.period)
    rs
    m
    p
    (lcm_least c r.period m (pos_of_dvd_of_pos d p) d (h 0 (omega arith)))
    (λ i l. h (suc i) (omega arith))

fold_pos : (c : ℕ) (rs : List Row) → 0 < c → ((i : ℕ) → i < length rs → 0 < (row_at rs i).period) → 0 < fold_of c rs
unfolding fold_of
fold_pos c [] p h = p
fold_pos c (r ∷ rs) p h =
    fold_pos (lcm_of c r.period) rs (lcm_pos c r.period p (h 0 (omega arith))) (λ i l. h (suc i) (omega arith))

-- no period makes it less
pub fold_grows : (c : ℕ) (rs : List Row) → 0 < c → ((i : ℕ) → i < length rs → 0 < (row_at rs i).period) → c ≤ fold_of c rs
fold_grows c rs p h = le_of_dvd (fold_pos c rs p h) (fold_first c rs)

-- ---- the cycle: the periods divide it, it divides what they divide, and it is not 0
module _ (rs : List Row) where
  pub cycle_multiple : (i : ℕ) → i < length rs → (row_at rs i).period ∣ cycle_of rs
  unfolding cycle_of
  cycle_multiple = fold_multiple 1 rs

  pub cycle_least : (m : ℕ) → 0 < m → ((i : ℕ) → i < length rs → (row_at rs i).period ∣ m) → cycle_of rs ∣ m
  unfolding cycle_of
  cycle_least m p = fold_least 1 rs m p (one-dvd m)

  pub cycle_pos : ((i : ℕ) → i < length rs → 0 < (row_at rs i).period) → 0 < cycle_of rs
  unfolding cycle_of
  cycle_pos = fold_pos 1 rs (omega arith)
