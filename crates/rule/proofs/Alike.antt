-- Where claims agree from slot c on, so does everything that the rule says of those slots.
-- Assumes nothing.
use mathlib.Core.Path.{◌≡◌, refl, sym, ap, ◌∙◌}
use mathlib.Core.Bool.{Bool, ◌&&◌}
use Prim.Native.Nat.{ℕ, zero, suc, ◌-◌, ◌≤◌, ◌<◌}
use native.Mathlib.Omega.{arith}
use Rattle.rule.specs.Slots.{some, first_row}
use Rattle.rule.specs.Rule.{held, takes, holder, first, short, begins, lacks, tight_row}
use Rattle.rule.specs.Sweep.{holders}
use Rattle.rule.proofs.Counting.{between_same}
use Rattle.rule.proofs.Facts.{held_none, held_is}
use Rattle.rule.proofs.First.{first_of_same}
use Rattle.rule.proofs.FirstRow.{first_row_suc}
use Rattle.rule.proofs.Unit.{takes_same}

-- ---- two tests that agree
pub first_row_same : (P Q : ℕ → Bool) (n : ℕ) → ((i : ℕ) → i < n → P i ≡ Q i) → first_row P n ≡ first_row Q n
unfolding first_row
first_row_same P Q zero h = refl
first_row_same P Q (suc n) h = cc (first_row_suc P n, first_row_suc Q n, first_row_same P Q n (λ i l. h i (omega arith)), h n (omega arith))

some_same : (P Q : ℕ → Bool) (s n : ℕ) → ((t : ℕ) → s ≤ t → P t ≡ Q t) → some P s n ≡ some Q s n
unfolding some
some_same P Q s zero h = refl
some_same P Q s (suc n) h = cc (h s (omega arith), some_same P Q (suc s) n (λ t l. h t (omega arith)))

-- ---- two claims that agree
module _ (E K K' : ℕ → ℕ → ℕ) (n c : ℕ) (agree : (i s : ℕ) → i < n → c ≤ s → K' i s ≡ K i s) where
  step_alike : (m : ℕ) → m < n → ((t : ℕ) → c ≤ t → held E K' m t ≡ held E K m t) → (s : ℕ) → c ≤ s → takes E K' m s ≡ takes E K m s
  step_alike m b before s l =
      takes_same E K K' m s (before s l) (between_same (held E K m) (held E K' m) (suc s) (E m s) (λ t u v. before t (omega arith))) (agree m s b l)

  pub held_alike : (m s : ℕ) → m ≤ n → c ≤ s → held E K' m s ≡ held E K m s
  held_alike zero s b l = held_none E K' s ∙ sym (held_none E K s)
  held_alike (suc m) s b l = cc (held_is E K m s, held_is E K' m s, held_alike m s (omega arith) l, step_alike m b (λ t. held_alike m t (omega arith)) s l)

  pub takes_alike : (i s : ℕ) → i < n → c ≤ s → takes E K' i s ≡ takes E K i s
  takes_alike i s b l = step_alike i b (λ t. held_alike i t (omega arith)) s l

  pub holder_alike : (s : ℕ) → c ≤ s → holder E K' n s ≡ holder E K n s
  unfolding holder
  holder_alike s l = first_row_same (λ i. takes E K' i s) (λ i. takes E K i s) n (λ i b. takes_alike i s b l)

  pub holders_alike : (m s : ℕ) → c ≤ s → holders E K' n s m ≡ holders E K n s m
  unfolding holders
  holders_alike zero s l = refl
  holders_alike (suc m) s l = cc (holder_alike s l, holders_alike m (suc s) (omega arith))

  pub first_alike : (i w : ℕ) → i < n → c ≤ w → first E K' i w ≡ first E K i w
  unfolding first
  first_alike i w b l = first_of_same (takes E K' i) (takes E K i) w (E i w - w) (λ t u v. takes_alike i t b (omega arith))

  pub short_alike : (i s : ℕ) → i < n → c ≤ s → short E K' i s ≡ short E K i s
  unfolding short
  short_alike i s b l = cc (between_same (held E K i) (held E K' i) s (E i s) (λ t u v. held_alike i t (omega arith) (omega arith)), agree i s b l)

  pub lacks_alike : (L i : ℕ) → i < n → lacks E K' c L i ≡ lacks E K c L i
  unfolding lacks begins
  lacks_alike L i b =
      some_same (λ s. begins E K' c i s && short E K' i s) (λ s. begins E K c i s && short E K i s) c (L - c)
      (λ s l. ap (λ (x : Bool). begins E K c i s && x) (short_alike i s b l))

  pub tight_alike : (L : ℕ) → tight_row E K' c L n ≡ tight_row E K c L n
  unfolding tight_row
  tight_alike L = first_row_same (lacks E K' c L) (lacks E K c L) n (λ i b. lacks_alike L i b)
