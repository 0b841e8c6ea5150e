-- The list of holders by its places.
-- Assumes nothing.
use mathlib.Core.Path.{◌≡◌, refl, ap}
use Prim.Native.Nat.{ℕ, zero, suc, ◌+◌, ◌<◌}
use native.Mathlib.Omega.{arith}
use lib.ListN.{get_or, length}
use Rattle.rule.specs.Rule.{holder}
use Rattle.rule.specs.Sweep.{holders}

module _ (E K : ℕ → ℕ → ℕ) (n : ℕ) where
  pub length_holders : (c m : ℕ) → length (holders E K n c m) ≡ m
  unfolding holders
  length_holders c zero = refl
  length_holders c (suc m) = ap suc (length_holders (suc c) m)

  pub get_or_holders : (c m j : ℕ) → j < m → get_or (holders E K n c m) j 0 ≡ holder E K n (c + j)
  unfolding holders
  get_or_holders c zero j l = absurd (omega arith)
  get_or_holders c (suc m) zero l = let e : c + 0 ≡ c = omega arith in rw e
  get_or_holders c (suc m) (suc j) l = let e : c + suc j ≡ suc c + j = omega arith in rw e (get_or_holders (suc c) m j (omega arith))
