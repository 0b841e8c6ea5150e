-- Monotone: smaller claims hold fewer slots, and leave no job short that was not.
-- Assumes nothing.
use mathlib.Core.Path.{◌≡◌}
use mathlib.Core.Logic.{⊎_elim}
use mathlib.Core.Bool.{true, false}
use Prim.Native.Nat.{ℕ, zero, suc, ◌≤◌, ◌<◌}
use native.Mathlib.Omega.{arith}
use Rattle.rule.specs.Rule.{between, held, takes, short}
use Rattle.rule.proofs.Counting.{between_anti}
use Rattle.rule.proofs.Tests.{split, never}
use Rattle.rule.proofs.Facts.{held_none, held_cases, held_up, held_taken, takes_few, takes_if, short_not, not_short}

module _ (E K K' : ℕ → ℕ → ℕ) (n c : ℕ) (less : (i s : ℕ) → i < n → c ≤ s → K' i s ≤ K i s) where
  -- one row more
  step : (m : ℕ) → m < n → ((t : ℕ) → c ≤ t → held E K' m t ≡ true → held E K m t ≡ true)
      → (s : ℕ) → c ≤ s → held E K' (suc m) s ≡ true → held E K (suc m) s ≡ true
  step m b before s l h =
      ⊎_elim (λ p. held_up E K m s (before s l p))
      (λ p. ⊎_elim (held_up E K m s) (λ q. held_taken E K m s (picked p q)) (split (held E K m s)))
      (held_cases E K' m s h)
    where
      picked : takes E K' m s ≡ true → held E K m s ≡ false → takes E K m s ≡ true
      picked p q =
          takes_if E K m s q
          (omega (arith, takes_few E K' m s p, less m s b l, between_anti (held E K m) (held E K' m) (suc s) (E m s) (λ t u v. before t (omega arith))))

  pub monotone : (m s : ℕ) → m ≤ n → c ≤ s → held E K' m s ≡ true → held E K m s ≡ true
  monotone zero s b l h = never h (held_none E K' s)
  monotone (suc m) s b l h = step m b (λ t. monotone m t (omega arith)) s l h

  -- more slots are free, from slot c on
  pub freer : (m x y : ℕ) → m ≤ n → c ≤ x → between (held E K m) x y ≤ between (held E K' m) x y
  freer m x y b l = between_anti (held E K m) (held E K' m) x y (λ t u v. monotone m t b (omega arith))

  pub still_enough : (i s : ℕ) → i < n → c ≤ s → short E K i s ≡ false → short E K' i s ≡ false
  still_enough i s b l h = not_short E K' i s (omega (arith, short_not E K i s h, less i s b l, freer i s (E i s) (omega arith) l))
