-- What `held`, `takes` and `short` say, each as a lemma, so that no law has to unfold them.
-- Assumes nothing.
use mathlib.Core.Path.{◌≡◌, refl, sym, ◌∙◌}
use mathlib.Core.Logic.{◌⊎◌, ⊎_elim}
use mathlib.Core.Bool.{Bool, true, false, not, ◌&&◌, ◌||◌}
use Prim.Native.Nat.{ℕ, suc, ◌≤◌, ◌<◌}
use native.Mathlib.Omega.{arith}
use lib.Dec.{ltb}
use borrow.Author.Tests.{ltb-true, ltb-false, lt-ltb, le-ltb}
use Rattle.rule.specs.Rule.{between, picks, held, takes, short}
use Rattle.rule.proofs.Tests.{side, never, false_if, or_cases, or_left, or_right, or_none}

-- ---- `picks` by its two parts
but_left : (a b : Bool) → (not a && b) ≡ true → a ≡ false
but_left true b h = sym h
but_left false b h = refl

but_right : (a b : Bool) → (not a && b) ≡ true → b ≡ true
but_right true b h = never refl (sym h)
but_right false b h = h

but_both : (a b : Bool) → a ≡ false → b ≡ true → (not a && b) ≡ true
but_both true b h k = sym h
but_both false b h k = k

module _ (H : ℕ → Bool) (e k s : ℕ) where
  pub picks_free : picks H e k s ≡ true → H s ≡ false
  picks_free h = but_left (H s) (ltb (between H (suc s) e) k) h

  pub picks_few : picks H e k s ≡ true → between H (suc s) e < k
  picks_few h = ltb-true (between H (suc s) e) k (but_right (H s) (ltb (between H (suc s) e) k) h)

  pub picks_if : H s ≡ false → between H (suc s) e < k → picks H e k s ≡ true
  picks_if h l = but_both (H s) (ltb (between H (suc s) e) k) h (lt-ltb (between H (suc s) e) k l)

module _ (E K : ℕ → ℕ → ℕ) where
  -- the free slots of the window of s after s, and from s on, as row i finds them
  abbrev pub after : ℕ → ℕ → ℕ
  after i s = between (held E K i) (suc s) (E i s)

  abbrev pub from : ℕ → ℕ → ℕ
  from i s = between (held E K i) s (E i s)

  pub held_none : (s : ℕ) → held E K 0 s ≡ false
  unfolding held
  held_none s = refl

  pub held_is : (n s : ℕ) → held E K (suc n) s ≡ (held E K n s || takes E K n s)
  unfolding held takes
  held_is n s = refl

  pub held_cases : (n s : ℕ) → held E K (suc n) s ≡ true → (held E K n s ≡ true) ⊎ (takes E K n s ≡ true)
  held_cases n s h = or_cases (held E K n s) (takes E K n s) (sym (held_is n s) ∙ h)

  pub held_up : (n s : ℕ) → held E K n s ≡ true → held E K (suc n) s ≡ true
  held_up n s h = held_is n s ∙ or_left (held E K n s) (takes E K n s) h

  pub held_taken : (n s : ℕ) → takes E K n s ≡ true → held E K (suc n) s ≡ true
  held_taken n s h = held_is n s ∙ or_right (held E K n s) (takes E K n s) h

  pub held_neither : (n s : ℕ) → held E K n s ≡ false → takes E K n s ≡ false → held E K (suc n) s ≡ false
  held_neither n s h k = held_is n s ∙ or_none (held E K n s) (takes E K n s) h k

  pub takes_is : (i s : ℕ) → takes E K i s ≡ picks (held E K i) (E i s) (K i s) s
  unfolding takes
  takes_is i s = refl

  pub takes_free : (i s : ℕ) → takes E K i s ≡ true → held E K i s ≡ false
  takes_free i s h = picks_free (held E K i) (E i s) (K i s) s (sym (takes_is i s) ∙ h)

  pub takes_few : (i s : ℕ) → takes E K i s ≡ true → after i s < K i s
  takes_few i s h = picks_few (held E K i) (E i s) (K i s) s (sym (takes_is i s) ∙ h)

  pub takes_if : (i s : ℕ) → held E K i s ≡ false → after i s < K i s → takes E K i s ≡ true
  takes_if i s h l = takes_is i s ∙ picks_if (held E K i) (E i s) (K i s) s h l

  pub leaves_held : (i s : ℕ) → held E K i s ≡ true → takes E K i s ≡ false
  leaves_held i s h = false_if (takes E K i s) (λ t. never h (takes_free i s t))

  pub leaves_if : (i s : ℕ) → K i s ≤ after i s → takes E K i s ≡ false
  leaves_if i s l = false_if (takes E K i s) (λ t. omega (arith, takes_few i s t))

  pub leaves_many : (i s : ℕ) → takes E K i s ≡ false → held E K i s ≡ false → K i s ≤ after i s
  leaves_many i s h f = ⊎_elim (λ (l : after i s < K i s). never (takes_if i s f l) h) (λ l. l) (side (after i s) (K i s))

  pub short_few : (i s : ℕ) → short E K i s ≡ true → from i s < K i s
  unfolding short
  short_few i s h = ltb-true (from i s) (K i s) h

  pub few_short : (i s : ℕ) → from i s < K i s → short E K i s ≡ true
  unfolding short
  few_short i s h = lt-ltb (from i s) (K i s) h

  pub short_not : (i s : ℕ) → short E K i s ≡ false → K i s ≤ from i s
  unfolding short
  short_not i s h = ltb-false (from i s) (K i s) h

  pub not_short : (i s : ℕ) → K i s ≤ from i s → short E K i s ≡ false
  unfolding short
  not_short i s h = le-ltb (from i s) (K i s) h
