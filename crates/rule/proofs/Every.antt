-- A test that holds at each of the first n rows.
-- Assumes nothing.
use mathlib.Core.Path.{◌≡◌, refl}
use mathlib.Core.Logic.{⊎_elim}
use mathlib.Core.Bool.{Bool, true}
use Prim.Native.Nat.{ℕ, zero, suc, ◌≤◌, ◌<◌}
use native.Mathlib.Omega.{arith}
use Rattle.rule.specs.Slots.{every}
use Rattle.rule.proofs.Tests.{side, and_left, and_right, and_both}

module _ (P : ℕ → Bool) where
  pub every_at : (n : ℕ) → every P n ≡ true → (i : ℕ) → i < n → P i ≡ true
  unfolding every
  every_at zero h i l = absurd (omega arith)
  every_at (suc n) h i l =
      ⊎_elim (λ (u : i < n). every_at n (and_left (every P n) (P n) h) i u)
      (λ (u : n ≤ i). let e : i ≡ n = omega arith in rw e (and_right (every P n) (P n) h)) (side i n)

  pub every_if : (n : ℕ) → ((i : ℕ) → i < n → P i ≡ true) → every P n ≡ true
  unfolding every
  every_if zero h = refl
  every_if (suc n) h = and_both (every P n) (P n) (every_if n (λ i l. h i (omega arith))) (h n (omega arith))
