-- What a sweep from a window's end has left of a claim, slot by slot.
-- Assumes nothing.
use mathlib.Core.Path.{◌≡◌, refl, ap}
use mathlib.Core.Logic.{⊎_elim}
use mathlib.Core.Bool.{true, false}
use Prim.Native.Nat.{ℕ, suc, ◌+◌, ◌-◌, ◌<◌}
use native.Mathlib.Omega.{arith}
use Rattle.rule.specs.Slots.{unit}
use Rattle.rule.specs.Rule.{held, takes}
use Rattle.rule.specs.Sweep.{rem}
use Rattle.rule.proofs.Tests.{split}
use Rattle.rule.proofs.Counting.{gap, between_step, between_none}
use Rattle.rule.proofs.Facts.{after, from, takes_free, takes_few, takes_if, leaves_if, leaves_many}

module _ (E K : ℕ → ℕ → ℕ) where
  pub rem_is : (i s : ℕ) → rem E K i s ≡ K i s - after E K i s
  unfolding rem
  rem_is i s = refl

  -- a row whose claim is met, and one whose claim is not
  pub met : (i s : ℕ) → rem E K i s ≡ 0 → takes E K i s ≡ false
  met i s e = leaves_if E K i s (omega (arith, rem_is i s))

  pub unmet : (i s : ℕ) → held E K i s ≡ false → 0 < rem E K i s → takes E K i s ≡ true
  unmet i s h l = takes_if E K i s h (omega (arith, rem_is i s))

  pub taken_left : (i s : ℕ) → takes E K i s ≡ true → 0 < rem E K i s
  taken_left i s h = omega (arith, rem_is i s, takes_few E K i s h)

  -- one slot down in the same window
  pub rem_step : (i s : ℕ) → suc s < E i s → E i (suc s) ≡ E i s → K i (suc s) ≡ K i s → rem E K i s ≡ rem E K i (suc s) - unit (takes E K i (suc s))
  rem_step i s l e k =
      ⊎_elim (λ h. taken h) (λ h. ⊎_elim (λ f. passed h f) (λ f. met h f) (split (held E K i (suc s)))) (split (takes E K i (suc s)))
    where
      down : after E K i s ≡ gap (held E K i (suc s)) + after E K i (suc s)
      down = rw e (between_step (held E K i) (suc s) (E i s) l)

      taken : takes E K i (suc s) ≡ true → rem E K i s ≡ rem E K i (suc s) - unit (takes E K i (suc s))
      taken h = omega (arith, rem_is i s, rem_is i (suc s), down, ap unit h, ap gap (takes_free E K i (suc s) h))

      passed : takes E K i (suc s) ≡ false → held E K i (suc s) ≡ true → rem E K i s ≡ rem E K i (suc s) - unit (takes E K i (suc s))
      passed h f = omega (arith, rem_is i s, rem_is i (suc s), down, ap unit h, ap gap f)

      met : takes E K i (suc s) ≡ false → held E K i (suc s) ≡ false → rem E K i s ≡ rem E K i (suc s) - unit (takes E K i (suc s))
      met h f = omega (arith, rem_is i s, rem_is i (suc s), down, ap unit h, ap gap f, leaves_many E K i (suc s) h f)

  -- at the window's last slot
  pub rem_last : (i s : ℕ) → E i s ≡ suc s → rem E K i s ≡ K i s
  rem_last i s e = omega (arith, rem_is i s, between_none (held E K i) (suc s) (E i s) (omega arith))

  -- what is left after the window's first usable slot is what the job is short of
  pub rem_short : (i s : ℕ) → s < E i s → K i s - from E K i s ≡ rem E K i s - unit (takes E K i s)
  rem_short i s l =
      ⊎_elim (λ h. omega (arith, rem_is i s, down, ap unit h, ap gap (takes_free E K i s h)))
      (λ h. ⊎_elim (λ f. omega (arith, rem_is i s, down, ap unit h, ap gap f)) (λ f. omega (arith, rem_is i s, down, ap unit h, ap gap f, leaves_many E K i s h f)) (split (held E K i s)))
      (split (takes E K i s))
    where
      down : from E K i s ≡ gap (held E K i s) + after E K i s
      down = between_step (held E K i) s (E i s) l
