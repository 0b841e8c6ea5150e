-- Each slot has one holder at most, and `holder` names it.
-- Assumes nothing.
use mathlib.Core.Path.{◌≡◌, sym, ap}
use mathlib.Core.Logic.{⊎_elim}
use mathlib.Core.Bool.{true, false, not}
use Prim.Native.Nat.{ℕ, zero, suc, ◌+◌, ◌≤◌, ◌<◌}
use native.Mathlib.Nat.{eq-or-lt_of_le}
use native.Mathlib.Omega.{arith}
use Rattle.rule.specs.Slots.{unit, within, or_row}
use Rattle.rule.specs.Rule.{between, held, takes, holder}
use Rattle.rule.proofs.Tests.{split, side, never, false_if}
use Rattle.rule.proofs.Counting.{gap, within_parted}
use Rattle.rule.proofs.Facts.{held_none, held_up, held_taken, held_neither, takes_free, leaves_held}
use Rattle.rule.proofs.FirstRow.{FirstAt, first_row_suc, none_found, found_none, row_first, first_row_lem}

module _ (E K : ℕ → ℕ → ℕ) where
  -- a slot that n rows leave free is left free by the first of them
  pub held_down : (i n s : ℕ) → i ≤ n → held E K n s ≡ false → held E K i s ≡ false
  held_down i zero s l h = let e : i ≡ 0 = omega arith in rw e h
  held_down i (suc n) s l h =
      ⊎_elim (λ e. rw e h)
      (λ u. held_down i n s (omega arith) (⊎_elim (λ p. never (held_up E K n s p) h) (λ p. p) (split (held E K n s))))
      (eq-or-lt_of_le l)

  -- a slot that row i holds is held for every later row
  pub held_on : (n i s : ℕ) → i < n → takes E K i s ≡ true → held E K n s ≡ true
  held_on n i s l h = ⊎_elim (λ p. p) (λ p. never (held_taken E K i s h) (held_down (suc i) n s l p)) (split (held E K n s))

  later_leaves : (i j s : ℕ) → i < j → takes E K i s ≡ true → takes E K j s ≡ false
  later_leaves i j s l h = leaves_held E K j s (held_on j i s l h)

  -- one holder at most
  pub one_holder : (i j s : ℕ) → takes E K i s ≡ true → takes E K j s ≡ true → i ≡ j
  one_holder i j s h k =
      ⊎_elim (λ u. never k (later_leaves i j s u h)) (λ u. ⊎_elim (λ q. sym q) (λ v. never h (later_leaves j i s v k)) (eq-or-lt_of_le u)) (side i j)

  -- the slots that the rows above row i leave free are those that row i leaves free too and those that it holds
  pub free_parted : (i a b : ℕ) → between (held E K i) a b ≡ between (held E K (suc i)) a b + within (takes E K i) a b
  free_parted i a b = within_parted (λ t. not (held E K i t)) (λ t. not (held E K (suc i) t)) (takes E K i) a b (λ t l u. each t)
    where
      each : (t : ℕ) → gap (held E K i t) ≡ gap (held E K (suc i) t) + unit (takes E K i t)
      each t =
          ⊎_elim (λ k. omega (arith, ap unit k, ap gap (takes_free E K i t k), ap gap (held_taken E K i t k)))
          (λ k. ⊎_elim (λ h. omega (arith, ap unit k, ap gap h, ap gap (held_up E K i t h))) (λ h. omega (arith, ap unit k, ap gap h, ap gap (held_neither E K i t h k))) (split (held E K i t)))
          (split (takes E K i t))

  -- ---- the holder by its number
  pub holder_is : (n i s : ℕ) → i < n → takes E K i s ≡ true → holder E K n s ≡ suc i
  unfolding holder
  holder_is n i s l h = first_row_lem (λ i. takes E K i s) n i (record { row = l; here = h; none_before = λ j u. false_if (takes E K j s) (λ k. never h (later_leaves j i s u k)) })

  pub is_holder : (n i s : ℕ) → holder E K n s ≡ suc i → (i < n) × (takes E K i s ≡ true)
  unfolding holder
  is_holder n i s e = let a : FirstAt (λ i. takes E K i s) n i = row_first (λ i. takes E K i s) n i e in (a.row, a.here)

  pub holder_free : (n s : ℕ) → held E K n s ≡ false → holder E K n s ≡ 0
  unfolding holder
  holder_free n s h = found_none (λ i. takes E K i s) n (λ i l. false_if (takes E K i s) (λ k. never (held_on n i s l k) h))

  pub free_holder : (n s : ℕ) → holder E K n s ≡ 0 → held E K n s ≡ false
  unfolding holder
  free_holder n s e = free n (omega arith)
    where
      free : (m : ℕ) → m ≤ n → held E K m s ≡ false
      free zero l = held_none E K s
      free (suc m) l = held_neither E K m s (free m (omega arith)) (none_found (λ i. takes E K i s) n e m l)

  pub holder_suc : (n s : ℕ) → holder E K (suc n) s ≡ or_row (holder E K n s) (takes E K n s) (suc n)
  unfolding holder
  holder_suc n s = first_row_suc (λ i. takes E K i s) n
