-- The fold of the periods as the code makes it: it stops once it is past the number of slots that a cycle may have, and no later period brings it back.
-- Assumes nothing.
use mathlib.Core.Path.{◌≡◌, refl, sym, ◌∙◌, ap}
use mathlib.Core.Logic.{◌⊎◌, inl, inr, ⊎_elim}
use mathlib.Core.Bool.{Bool, true, false}
use mathlib.Core.List.{List}
use Prim.Native.Nat.{ℕ, ◌+◌, ◌*◌, ◌/◌, ◌≤◌, ◌<◌}
use native.Mathlib.Omega.{arith}
use native.Mathlib.Nat.{zero-mul, div-zero, pos_of_dvd_of_pos}
use borrow.Author.Tests.{le-leb, lt-leb, leb-true, leb-false}
use lib.Dec.{leb}
use lib.ListN.{length, drop, drop_of_length-le}
use Rattle.std.specs.Prelude.{Option, Some, None, unwrap_or}
use Rattle.std.proofs.lemmas.List.{drop_more, get_or-drop, length-drop}
use Rattle.std.proofs.lemmas.Option.{none-some}
use Rattle.table.specs.declared.Row.{Row}
use Rattle.table.specs.Gcd.{gcd_of, lcm_of}
use Rattle.table.specs.Rows.{row_at, fold_of, cycle_of, within_cycle}
use Rattle.table.proofs.Euclid.{gcd_right, lcm_pos}
use Rattle.table.proofs.Cycle.{fold_grows}

pub within_under : (m : ℕ) → m ≤ 4096 → Some m ≡ within_cycle m
within_under m h = rw (le-leb m 4096 h)

pub within_over : (m : ℕ) → 4096 < m → None ≡ within_cycle m
within_over m h = rw (lt-leb m 4096 h)

pub within_cases : (m : ℕ) → ((m ≤ 4096) × (within_cycle m ≡ Some m)) ⊎ ((4096 < m) × (within_cycle m ≡ None))
within_cases m = go (leb m 4096) refl
  where
    go : (b : Bool) → leb m 4096 ≡ b → ((m ≤ 4096) × (within_cycle m ≡ Some m)) ⊎ ((4096 < m) × (within_cycle m ≡ None))
    go true e = inl (leb-true m 4096 e, rw e)
    go false e = inr (leb-false m 4096 e, rw e)

pub within_is : (m x : ℕ) → within_cycle m ≡ Some x → (m ≤ 4096) × (x ≡ m)
within_is m x e =
    ⊎_elim
    (λ p. (p.0, ap (λ (o : Option ℕ). unwrap_or o x) (sym e ∙ p.1)))
    (λ p. absurd (none-some x (sym p.1 ∙ e)))
    (within_cases m)

-- ---- what `join` gives, by its divisor
module _ (x y g : ℕ) (e : g ≡ gcd_of x y) where
  pub divisor_pos : 0 < y → 0 < g
  divisor_pos h = rw e (pos_of_dvd_of_pos (gcd_right x y) h)

  lcm_by : lcm_of x y ≡ x / g * y
  unfolding lcm_of
  lcm_by = rw e

  -- a divisor of 0 is that of 0 and 0
  pub joined_none : g ≡ 0 → Some 0 ≡ within_cycle (lcm_of x y)
  joined_none z =
      let n : lcm_of x y ≡ 0 = lcm_by ∙ rw (z, div-zero, zero-mul) in
      rw n (within_under 0 (omega arith))

  pub joined_under : x / g * y ≤ 4096 → Some (x / g * y) ≡ within_cycle (lcm_of x y)
  joined_under h = rw lcm_by (within_under (x / g * y) h)

  pub joined_over : 4096 < x / g * y → None ≡ within_cycle (lcm_of x y)
  joined_over h = rw lcm_by (within_over (x / g * y) h)

-- ---- the loop over the rows: c is the multiple of the periods before row i, counted from 0
module _ (rs : List Row) (periods : (i : ℕ) → i < length rs → 0 < (row_at rs i).period) (i c : ℕ) (inv : cycle_of rs ≡ fold_of c (drop i rs)) (p : 0 < c) where
  module _ (h : i < length rs) where
    abbrev joined : ℕ
    joined = lcm_of c (row_at rs i).period

    turned : cycle_of rs ≡ fold_of joined (drop (i + 1) rs)
    unfolding fold_of
    turned = inv ∙ ap (λ (l : List Row). fold_of c l) (drop_more rs i _ h)

    joined_pos : 0 < joined
    joined_pos = lcm_pos c (row_at rs i).period p (periods i h)

    pub fold_turn : (x : ℕ) → Some x ≡ within_cycle joined → (0 < x) × (x ≤ 4096) × (cycle_of rs ≡ fold_of x (drop (i + 1) rs))
    fold_turn x e =
        let w = within_is joined x (sym e) in
        (omega (arith, joined_pos, w.1), omega (arith, w.0, w.1), turned ∙ ap (λ (m : ℕ). fold_of m (drop (i + 1) rs)) (sym w.1))

    pub fold_over : None ≡ within_cycle joined → None ≡ within_cycle (cycle_of rs)
    fold_over e = go (within_cases joined)
      where
        later : (k : ℕ) → k < length (drop (i + 1) rs) → 0 < (row_at (drop (i + 1) rs) k).period
        later k l =
            let m : i + 1 + k < length rs = omega (arith, length-drop (i + 1) rs) in
            rw get_or-drop (periods (i + 1 + k) m)

        go : ((joined ≤ 4096) × (within_cycle joined ≡ Some joined)) ⊎ ((4096 < joined) × (within_cycle joined ≡ None)) → None ≡ within_cycle (cycle_of rs)
        go (inl q) = absurd (none-some joined (e ∙ q.1))
        go (inr q) =
            let grows : joined ≤ fold_of joined (drop (i + 1) rs) = fold_grows joined (drop (i + 1) rs) joined_pos later in
            within_over (cycle_of rs) (rw turned (omega (arith, grows, q.0)))

  pub fold_end : c ≤ 4096 → length rs ≤ i → Some c ≡ within_cycle (cycle_of rs)
  unfolding fold_of
  fold_end m h = within_under c m ∙ ap within_cycle (sym (inv ∙ ap (λ (l : List Row). fold_of c l) (drop_of_length-le rs h)))
