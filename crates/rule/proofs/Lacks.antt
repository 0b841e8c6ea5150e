-- Where a job is short, slot by slot: `lacks` and `tight_row` by what they say.
-- Assumes nothing.
use mathlib.Core.Path.{◌≡◌, refl, sym, ◌∙◌}
use mathlib.Core.Logic.{◌⊎◌, inl, inr, ⊎_elim}
use mathlib.Core.Bool.{Bool, true, false, ◌&&◌}
use Prim.Native.Nat.{ℕ, zero, suc, ◌+◌, ◌-◌, ◌≤◌, ◌<◌}
use native.Mathlib.Nat.{eq-or-lt_of_le}
use native.Mathlib.Omega.{arith}
use lib.Dec.{eqb}
use borrow.Author.Tests.{eqb-true, eq-eqb}
use Rattle.rule.specs.Slots.{some}
use Rattle.rule.specs.Rule.{short, begins, lacks, tight_row, Windows}
use Rattle.rule.proofs.Tests.{never, false_if, and_left, and_right, and_both, or_cases, or_left, or_right}
use Rattle.rule.proofs.FirstRow.{FirstAt, none_found, found_none, row_first, first_row_lem}

-- ---- some slot
module _ (P : ℕ → Bool) where
  pub some_at : (s n : ℕ) → some P s n ≡ true → (t : ℕ) × (s ≤ t) × (t < s + n) × (P t ≡ true)
  unfolding some
  some_at s zero h = never refl (sym h)
  some_at s (suc n) h =
      ⊎_elim (λ e. (s, omega arith, omega arith, e))
      (λ e. let r : (t : ℕ) × (suc s ≤ t) × (t < suc s + n) × (P t ≡ true) = some_at (suc s) n e in (r.0, omega (arith, r.1), omega (arith, r.2), r.3))
      (or_cases (P s) (some P (suc s) n) h)

  pub at_some : (s n t : ℕ) → s ≤ t → t < s + n → P t ≡ true → some P s n ≡ true
  unfolding some
  at_some s zero t l u h = absurd (omega arith)
  at_some s (suc n) t l u h =
      ⊎_elim (λ (e : s ≡ t). or_left (P s) (some P (suc s) n) (rw e h))
      (λ (v : s < t). or_right (P s) (some P (suc s) n) (at_some (suc s) n t v (omega arith) h)) (eq-or-lt_of_le l)

module _ (E K : ℕ → ℕ → ℕ) where
  -- ---- where windows begin
  pub begins_first : (c i : ℕ) → begins E K c i c ≡ true
  unfolding begins
  begins_first c i = or_left (eqb c c) (eqb (E i (c - 1)) c) (eq-eqb c c refl)

  pub begins_next : (c i s : ℕ) → E i s ≡ suc s → begins E K c i (suc s) ≡ true
  unfolding begins
  begins_next c i s e =
      let q : suc s - 1 ≡ s = omega arith in
      or_right (eqb (suc s) c) (eqb (E i (suc s - 1)) (suc s)) (eq-eqb (E i (suc s - 1)) (suc s) (rw q e))

  pub begins_cases : (c i s : ℕ) → begins E K c i s ≡ true → (s ≡ c) ⊎ (E i (s - 1) ≡ s)
  unfolding begins
  begins_cases c i s h = ⊎_elim (λ e. inl (eqb-true s c e)) (λ e. inr (eqb-true (E i (s - 1)) s e)) (or_cases (eqb s c) (eqb (E i (s - 1)) s) h)

  -- each slot from c on is in a window that begins at c or after
  pub begun : {n : ℕ} → Windows E n → (c i : ℕ) → i < n → (s : ℕ) → c ≤ s → (w : ℕ) × (c ≤ w) × (w ≤ s) × (begins E K c i w ≡ true) × (E i w ≡ E i s)
  begun win c i row zero l = (0, l, omega arith, (let e : c ≡ 0 = omega arith in rw e (begins_first 0 i)), refl)
  begun win c i row (suc s) l =
      ⊎_elim (λ (e : c ≡ suc s). (suc s, omega arith, omega arith, rw e (begins_first (suc s) i), refl))
      (λ (u : c < suc s).
      ⊎_elim (λ (e : suc s ≡ E i s). (suc s, omega arith, omega arith, begins_next c i s (sym e), refl))
      (λ (v : suc s < E i s).
      let r : (w : ℕ) × (c ≤ w) × (w ≤ s) × (begins E K c i w ≡ true) × (E i w ≡ E i s) = begun win c i row s (omega arith) in
      (r.0, r.1, omega (arith, r.2), r.3, r.4 ∙ sym (win.flat i s (suc s) row (omega arith) v)))
      (eq-or-lt_of_le (win.inside i s row)))
      (eq-or-lt_of_le l)

  -- ---- a job that is short, both ways
  module _ (c L i : ℕ) where
    pub lacks_at : lacks E K c L i ≡ true → (s : ℕ) × (c ≤ s) × (s < L) × (begins E K c i s ≡ true) × (short E K i s ≡ true)
    unfolding lacks
    lacks_at h =
        let r = some_at (λ s. begins E K c i s && short E K i s) c (L - c) h in
        (r.0, r.1, omega (arith, r.1, r.2), and_left (begins E K c i r.0) (short E K i r.0) r.3, and_right (begins E K c i r.0) (short E K i r.0) r.3)

    pub at_lacks : (s : ℕ) → c ≤ s → s < L → begins E K c i s ≡ true → short E K i s ≡ true → lacks E K c L i ≡ true
    unfolding lacks
    at_lacks s l u b h = at_some (λ s. begins E K c i s && short E K i s) c (L - c) s l (omega arith) (and_both (begins E K c i s) (short E K i s) b h)

    -- and where none is
    pub enough : lacks E K c L i ≡ false → (s : ℕ) → c ≤ s → s < L → begins E K c i s ≡ true → short E K i s ≡ false
    enough h s l u b = false_if (short E K i s) (λ k. never (at_lacks s l u b k) h)

    pub if_enough : ((s : ℕ) → c ≤ s → s < L → begins E K c i s ≡ true → short E K i s ≡ false) → lacks E K c L i ≡ false
    if_enough h = false_if (lacks E K c L i) (λ k. let r = lacks_at k in never r.4 (h r.0 r.1 r.2 r.3))

  -- ---- the row that is named, both ways
  module _ (c L n : ℕ) where
    pub tight_none : tight_row E K c L n ≡ 0 → (i : ℕ) → i < n → lacks E K c L i ≡ false
    unfolding tight_row
    tight_none e = none_found (lacks E K c L) n e

    pub none_tight : ((i : ℕ) → i < n → lacks E K c L i ≡ false) → tight_row E K c L n ≡ 0
    unfolding tight_row
    none_tight h = found_none (lacks E K c L) n h

    pub tight_first : (i : ℕ) → tight_row E K c L n ≡ suc i → FirstAt (lacks E K c L) n i
    unfolding tight_row
    tight_first i e = row_first (lacks E K c L) n i e

    pub first_tight : (i : ℕ) → FirstAt (lacks E K c L) n i → tight_row E K c L n ≡ suc i
    unfolding tight_row
    first_tight i a = first_row_lem (lacks E K c L) n i a
