-- The first row at which a test holds.
-- Assumes nothing.
use mathlib.Core.Path.{◌≡◌, refl, ap, ◌∙◌}
use mathlib.Core.Logic.{◌⊎◌, inl, inr, ⊎_elim}
use mathlib.Core.Bool.{Bool, true, false}
use Prim.Native.Nat.{ℕ, zero, suc, ◌≤◌, ◌<◌}
use native.Mathlib.Omega.{arith}
use borrow.Author.Count.{below_none}
use borrow.Author.Tests.{ne_eqb}
use Rattle.rule.specs.Slots.{or_row, first_row}
use Rattle.rule.proofs.Tests.{split, side, never}

pub row_found : (a k : ℕ) (test : Bool) → 0 < a → or_row a test k ≡ a
unfolding or_row
row_found a k test h = simp (ne_eqb a 0 (omega arith))

row_here : (a k : ℕ) (test : Bool) → a ≡ 0 → test ≡ true → or_row a test k ≡ k
unfolding or_row
row_here a k test e h = rw (e, h)

row_none : (a k : ℕ) (test : Bool) → a ≡ 0 → test ≡ false → or_row a test k ≡ 0
unfolding or_row
row_none a k test e h = rw (e, h)

-- row i is the first of n at which P holds
pub record FirstAt (P : ℕ → Bool) (n i : ℕ) : Type 0 where
  pub row : i < n
  pub here : P i ≡ true
  pub none_before : (j : ℕ) → j < i → P j ≡ false

module _ (P : ℕ → Bool) where
  abbrev None : ℕ → Type 0
  None n = (j : ℕ) → j < n → P j ≡ false

  pub first_row_suc : (n : ℕ) → first_row P (suc n) ≡ or_row (first_row P n) (P n) (suc n)
  unfolding first_row
  first_row_suc n = refl

  none_more : (n : ℕ) → None n → P n ≡ false → None (suc n)
  none_more n h e j l = ⊎_elim (λ (u : j < n). h j u) (λ (u : n ≤ j). let q : j ≡ n = omega arith in rw q e) (side j n)

  cases : (n : ℕ) → ((first_row P n ≡ 0) × None n) ⊎ ((i : ℕ) × (first_row P n ≡ suc i) × FirstAt P n i)
  unfolding first_row
  cases zero = inl (refl, below_none (λ j. P j ≡ false))
  cases (suc n) = ⊎_elim none found (cases n)
    where
      none : (first_row P n ≡ 0) × None n → ((first_row P (suc n) ≡ 0) × None (suc n)) ⊎ ((i : ℕ) × (first_row P (suc n) ≡ suc i) × FirstAt P (suc n) i)
      none h =
          ⊎_elim
          (λ t. inr (n, first_row_suc n ∙ row_here (first_row P n) (suc n) (P n) h.0 t, record { row = omega arith; here = t; none_before = h.1 }))
          (λ t. inl (first_row_suc n ∙ row_none (first_row P n) (suc n) (P n) h.0 t, none_more n h.1 t))
          (split (P n))

      found : (i : ℕ) × (first_row P n ≡ suc i) × FirstAt P n i → ((first_row P (suc n) ≡ 0) × None (suc n)) ⊎ ((i : ℕ) × (first_row P (suc n) ≡ suc i) × FirstAt P (suc n) i)
      found h =
          let e : first_row P n ≡ suc h.0 = h.1 in
          let a : FirstAt P n h.0 = h.2 in
          inr (h.0, first_row_suc n ∙ row_found (first_row P n) (suc n) (P n) (omega arith) ∙ e, record { row = omega (arith, a.row); here = a.here; none_before = a.none_before })

  -- no row, both ways
  pub none_found : (n : ℕ) → first_row P n ≡ 0 → (j : ℕ) → j < n → P j ≡ false
  none_found n e = ⊎_elim (λ h. h.1) (λ h. absurd (omega (arith, h.1))) (cases n)

  pub found_none : (n : ℕ) → ((j : ℕ) → j < n → P j ≡ false) → first_row P n ≡ 0
  found_none n h = ⊎_elim (λ k. k.0) (λ k. never k.2.here (h k.0 k.2.row)) (cases n)

  -- row i, both ways
  pub row_first : (n i : ℕ) → first_row P n ≡ suc i → FirstAt P n i
  row_first n i e = ⊎_elim (λ h. absurd (omega (arith, h.0))) (λ h. let q : h.0 ≡ i = omega (arith, h.1) in rw q at h.2) (cases n)

  pub first_row_lem : (n i : ℕ) → FirstAt P n i → first_row P n ≡ suc i
  first_row_lem n i a = ⊎_elim (λ h. never a.here (h.1 i a.row)) (λ h. h.1 ∙ ap suc (same h.0 h.2)) (cases n)
    where
      same : (j : ℕ) → FirstAt P n j → j ≡ i
      same j b =
          ⊎_elim (λ u. never b.here (a.none_before j u))
          (λ u. ⊎_elim (λ v. never a.here (b.none_before i v)) (λ v. omega arith) (side i j)) (side j i)
