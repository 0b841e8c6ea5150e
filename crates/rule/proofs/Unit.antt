-- Unit: where row r holds slot c and its job's claim falls by one there, every later slot is held as before.
-- Assumes nothing.
use mathlib.Core.Path.{◌≡◌, sym, ◌∙◌}
use mathlib.Core.Logic.{⊎_elim}
use mathlib.Core.Bool.{true, false}
use Prim.Native.Nat.{ℕ, zero, suc, ◌≤◌, ◌<◌}
use native.Mathlib.Omega.{arith}
use lib.Dec.{eqb}
use borrow.Author.Tests.{eqb-true, eqb-false}
use Rattle.rule.specs.Rule.{between, held, takes}
use Rattle.rule.proofs.Counting.{between_same, between_more}
use Rattle.rule.proofs.Tests.{split, side}
use Rattle.rule.proofs.Facts.{held_none, held_is, takes_few, takes_if, leaves_held}

-- takes, from its three parts
pub takes_same : (E K K' : ℕ → ℕ → ℕ) (i s : ℕ) → held E K' i s ≡ held E K i s
    → between (held E K' i) (suc s) (E i s) ≡ between (held E K i) (suc s) (E i s) → K' i s ≡ K i s → takes E K' i s ≡ takes E K i s
unfolding takes
takes_same E K K' i s h a k = cc

module _
    (E K K' : ℕ → ℕ → ℕ)
    (n r c : ℕ)
    (ends : (s : ℕ) → c < s → s < E r c → E r s ≡ E r c)
    (claims : (s : ℕ) → c < s → s < E r c → K r s ≡ K r c)
    (taken : takes E K r c ≡ true)
    (others : (i s : ℕ) → i < n → c < s → (i ≡ r → E r c ≤ s) → K' i s ≡ K i s)
    (one : (s : ℕ) → c < s → s < E r c → suc (K' r s) ≡ K r s) where
  Before : ℕ → Type 0
  Before n = (t : ℕ) → c < t → held E K' n t ≡ held E K n t

  after_same : (n : ℕ) → Before n → (s : ℕ) → c < s → between (held E K' n) (suc s) (E n s) ≡ between (held E K n) (suc s) (E n s)
  unfolding Before
  after_same n b s l = between_same (held E K n) (held E K' n) (suc s) (E n s) (λ t u v. b t (omega arith))

  -- in the job that ran, every slot that is free after c is taken, before and after
  inside : Before r → (s : ℕ) → c < s → s < E r c → takes E K' r s ≡ takes E K r s
  unfolding Before
  inside b s l u =
      ⊎_elim (λ h. leaves_held E K' r s (b s l ∙ h) ∙ sym (leaves_held E K r s h)) (λ h. takes_if E K' r s (b s l ∙ h) (fewer h) ∙ sym (takes_if E K r s h (few h)))
      (split (held E K r s))
    where
      below : held E K r s ≡ false → between (held E K r) (suc s) (E r s) < between (held E K r) (suc c) (E r c)
      below h = rw (ends s l u) (between_more (held E K r) (suc c) s (E r c) l u h)

      few : held E K r s ≡ false → between (held E K r) (suc s) (E r s) < K r s
      few h = omega (arith, below h, takes_few E K r c taken, claims s l u)

      fewer : held E K r s ≡ false → between (held E K' r) (suc s) (E r s) < K' r s
      fewer h = omega (arith, below h, takes_few E K r c taken, claims s l u, one s l u, after_same r b s l)

  takes_step : (i : ℕ) → i < n → Before i → (s : ℕ) → c < s → takes E K' i s ≡ takes E K i s
  unfolding Before
  takes_step i m b s l =
      ⊎_elim (λ e. ⊎_elim (λ u. rw (eqb-true i r e) (inside (rw (eqb-true i r e) at b) s l u)) (λ u. elsewhere (λ _. u)) (side s (E r c)))
      (λ e. elsewhere (λ q. absurd (eqb-false i r e q))) (split (eqb i r))
    where
      elsewhere : (i ≡ r → E r c ≤ s) → takes E K' i s ≡ takes E K i s
      elsewhere h = takes_same E K K' i s (b s l) (after_same i b s l) (others i s m l h)

  pub held_after : (m s : ℕ) → m ≤ n → c < s → held E K' m s ≡ held E K m s
  unfolding Before
  held_after zero s b l = held_none E K' s ∙ sym (held_none E K s)
  held_after (suc m) s b l =
      cc (held_is E K m s, held_is E K' m s, held_after m s (omega arith) l, takes_step m b (λ t. held_after m t (omega arith)) s l)

  pub takes_after : (i s : ℕ) → i < n → c < s → takes E K' i s ≡ takes E K i s
  unfolding Before
  takes_after i s b l = takes_step i b (λ t. held_after i t (omega arith)) s l
