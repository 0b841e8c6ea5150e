-- First-later: with smaller claims no job's first slot comes earlier.
-- Assumes nothing.
use mathlib.Core.Path.{◌≡◌, refl, sym, ap, ◌∙◌}
use mathlib.Core.Logic.{⊎_elim}
use mathlib.Core.Bool.{Bool, true, false}
use Prim.Native.Nat.{ℕ, zero, suc, ◌+◌, ◌-◌, ◌≤◌, ◌<◌}
use native.Mathlib.Nat.{eq-or-lt_of_le}
use native.Mathlib.Omega.{arith}
use Rattle.rule.specs.Rule.{between, held, takes, short, first}
use Rattle.rule.specs.Slots.{unit, count, first_of}
use Rattle.rule.proofs.Tests.{split}
use Rattle.rule.proofs.Facts.{after, leaves_if, short_not, not_short}
use Rattle.rule.proofs.Monotone.{freer}
use Rattle.rule.proofs.Kept.{kept}

pub first_of_none : (P : ℕ → Bool) (s : ℕ) → first_of P s 0 ≡ s
unfolding first_of
first_of_none P s = refl

pub first_of_here : (P : ℕ → Bool) (s n : ℕ) → P s ≡ true → first_of P s (suc n) ≡ s
unfolding first_of
first_of_here P s n h = rw (h, first_of)

pub first_of_later : (P : ℕ → Bool) (s n : ℕ) → P s ≡ false → first_of P s (suc n) ≡ first_of P (suc s) n
unfolding first_of
first_of_later P s n h = rw (h, first_of)

pub first_of_from : (P : ℕ → Bool) (s n : ℕ) → s ≤ first_of P s n
first_of_from P s zero = omega (arith, first_of_none P s)
first_of_from P s (suc n) =
    let r : suc s ≤ first_of P (suc s) n = first_of_from P (suc s) n in
    ⊎_elim (λ h. omega (arith, first_of_here P s n h)) (λ h. omega (arith, first_of_later P s n h)) (split (P s))

-- two tests that agree first hold at the same slot
pub first_of_same : (P Q : ℕ → Bool) (s n : ℕ) → ((t : ℕ) → s ≤ t → t < s + n → P t ≡ Q t) → first_of P s n ≡ first_of Q s n
first_of_same P Q s zero h = first_of_none P s ∙ sym (first_of_none Q s)
first_of_same P Q s (suc n) h =
    let e : P s ≡ Q s = h s (omega arith) (omega arith) in
    ⊎_elim (λ t. first_of_here P s n t ∙ sym (first_of_here Q s n (sym e ∙ t)))
    (λ t. first_of_later P s n t ∙ first_of_same P Q (suc s) n (λ x l u. h x (omega arith) (omega arith)) ∙ sym (first_of_later Q s n (sym e ∙ t)))
    (split (P s))

-- where P holds at some slot, f is the first such
pub record FoundFirst (P : ℕ → Bool) (s n f : ℕ) : Type 0 where
  pub from : s ≤ f
  pub before : f < s + n
  pub here : P f ≡ true
  pub none_earlier : (t : ℕ) → s ≤ t → t < f → P t ≡ false

pub first_of_found : (P : ℕ → Bool) (s n : ℕ) → 0 < count P s n → FoundFirst P s n (first_of P s n)
unfolding count
first_of_found P s zero l = absurd (omega arith)
first_of_found P s (suc n) l =
    ⊎_elim
    (λ h. rw (first_of_here P s n h) (record { from = omega arith; before = omega arith; here = h; none_earlier = λ t a b. absurd (omega arith) }))
    (λ h.
    let g : FoundFirst P (suc s) n (first_of P (suc s) n) = first_of_found P (suc s) n (omega (arith, ap unit h)) in
    rw (first_of_later P s n h)
    (record {
      from = omega (arith, g.from);
      before = omega (arith, g.before);
      here = g.here;
      none_earlier = λ t a b. ⊎_elim (λ (e : s ≡ t). rw (← e) h) (λ (u : s < t). g.none_earlier t u b) (eq-or-lt_of_le a);
    }))
    (split (P s))

module _
    (E K K' : ℕ → ℕ → ℕ)
    (n c : ℕ)
    (less : (i s : ℕ) → i < n → c ≤ s → K' i s ≤ K i s)
    (i w : ℕ)
    (row : i < n)
    (on : c ≤ w)
    (ends : (s : ℕ) → w ≤ s → s < E i w → E i s ≡ E i w)
    (claims : (s : ℕ) → w ≤ s → s < E i w → K i s ≡ K i w) where
  Enough : ℕ → Type 0
  Enough s = K i w ≤ between (held E K i) s (E i w)

  -- a slot that the row leaves: it has enough after it
  passed : (s : ℕ) → w ≤ s → s < E i w → Enough s → takes E K i s ≡ false → Enough (suc s)
  unfolding Enough
  passed s l u enough h =
      let e : E i s ≡ E i w = ends s l u in
      let k : K i s ≡ K i w = claims s l u in
      let m : K i s ≤ after E K i s = kept E K i s (omega arith) (not_short E K i s (rw (e, k) enough)) h in
      rw (← k, ← e) m

  -- where there is enough after it, the smaller claims leave it too
  left : (s : ℕ) → w ≤ s → s < E i w → Enough (suc s) → takes E K' i s ≡ false
  unfolding Enough
  left s l u enough =
      leaves_if E K' i s
      (rw (ends s l u) (omega (arith, less i s row (omega arith), claims s l u, freer E K K' n c less i (suc s) (E i w) (omega arith) (omega arith))))

  later : (n s : ℕ) → w ≤ s → s + n ≡ E i w → Enough s → first_of (takes E K i) s n ≤ first_of (takes E K' i) s n
  later zero s l e enough = omega (arith, first_of_none (takes E K i) s, first_of_none (takes E K' i) s)
  later (suc n) s l e enough =
      ⊎_elim (λ h. omega (arith, first_of_here (takes E K i) s n h, first_of_from (takes E K' i) s (suc n)))
      (λ h.
      let more : Enough (suc s) = passed s l (omega arith) enough h in
      let r : first_of (takes E K i) (suc s) n ≤ first_of (takes E K' i) (suc s) n = later n (suc s) (omega arith) (omega arith) more in
      omega (arith, first_of_later (takes E K i) s n h, first_of_later (takes E K' i) s n (left s l (omega arith) more)))
      (split (takes E K i s))

  pub first_later : w ≤ E i w → short E K i w ≡ false → first E K i w ≤ first E K' i w
  unfolding first Enough
  first_later l h = later (E i w - w) w (omega arith) (omega arith) (short_not E K i w h)
