-- Kept: a slot passed leaves no job short that was not.
-- Assumes nothing.
use mathlib.Core.Path.{◌≡◌, ap}
use mathlib.Core.Logic.{⊎_elim}
use mathlib.Core.Bool.{true, false}
use Prim.Native.Nat.{ℕ, suc, ◌+◌, ◌≤◌, ◌<◌}
use native.Mathlib.Omega.{arith}
use Rattle.rule.specs.Rule.{held, takes, short}
use Rattle.rule.proofs.Counting.{gap, between_step, between_none, between_same}
use Rattle.rule.proofs.Tests.{split}
use Rattle.rule.proofs.Facts.{after, from, leaves_many, takes_free, short_not, not_short}

module _ (E K : ℕ → ℕ → ℕ) (i c : ℕ) (in_window : c < E i c) (enough : short E K i c ≡ false) where
  first_slot : from E K i c ≡ gap (held E K i c) + after E K i c
  first_slot = between_step (held E K i) c (E i c) in_window

  -- a slot that the row does not take
  pub kept : takes E K i c ≡ false → K i c ≤ after E K i c
  kept h =
      ⊎_elim (λ p. omega (arith, first_slot, ap gap p, short_not E K i c enough)) (λ p. leaves_many E K i c h p)
      (split (held E K i c))

  -- a slot that it takes
  pub kept_taken : takes E K i c ≡ true → K i c ≤ suc (after E K i c)
  kept_taken h = omega (arith, first_slot, ap gap (takes_free E K i c h), short_not E K i c enough)

  pub kept_end : takes E K i c ≡ false → suc c ≡ E i c → K i c ≡ 0
  kept_end h e = omega (arith, kept h, between_none (held E K i) (suc c) (E i c) (omega arith))

  -- with other claims that hold the later slots alike
  module _ (K' : ℕ → ℕ → ℕ) (alike : (t : ℕ) → c < t → held E K' i t ≡ held E K i t) (next : E i (suc c) ≡ E i c) where
    from_next : from E K' i (suc c) ≡ after E K i c
    from_next = rw next (between_same (held E K i) (held E K' i) (suc c) (E i c) (λ t u v. alike t u))

    pub kept_next : takes E K i c ≡ false → K' i (suc c) ≤ K i c → short E K' i (suc c) ≡ false
    kept_next h k = not_short E K' i (suc c) (omega (arith, from_next, kept h))

    pub kept_next_taken : takes E K i c ≡ true → suc (K' i (suc c)) ≤ K i c → short E K' i (suc c) ≡ false
    kept_next_taken h k = not_short E K' i (suc c) (omega (arith, from_next, kept_taken h))
