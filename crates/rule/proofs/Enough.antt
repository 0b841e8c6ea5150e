-- No job is short, window by window: `Enough` says what `tight_row` is 0 for.
-- Assumes nothing.
use mathlib.Core.Path.{◌≡◌}
use mathlib.Core.Logic.{⊎_elim}
use mathlib.Core.Bool.{true, false}
use Prim.Native.Nat.{ℕ, suc, ◌-◌, ◌≤◌, ◌<◌}
use native.Mathlib.Nat.{eq-or-lt_of_le}
use native.Mathlib.Omega.{arith}
use Rattle.rule.specs.Rule.{short, begins, tight_row}
use Rattle.rule.proofs.Lacks.{begins_first, begins_next, begins_cases, enough, if_enough, tight_none, none_tight}

-- of n rows none is short, from slot c on, in the windows that begin in the slots from c up to, not including, L
pub record Enough (E K : ℕ → ℕ → ℕ) (n c L : ℕ) : Type 0 where
  pub now : (i : ℕ) → i < n → short E K i c ≡ false
  pub later : (i s : ℕ) → i < n → c ≤ s → suc s < L → E i s ≡ suc s → short E K i (suc s) ≡ false

module _ (E K : ℕ → ℕ → ℕ) (n c L : ℕ) where
  pub tight_enough : c < L → tight_row E K c L n ≡ 0 → Enough E K n c L
  tight_enough lt h = record {
    now = λ i row. enough E K c L i (tight_none E K c L n h i row) c (omega arith) lt (begins_first E K c i);
    later = λ i s row l u e. enough E K c L i (tight_none E K c L n h i row) (suc s) (omega arith) u (begins_next E K c i s e);
  }

  pub enough_tight : Enough E K n c L → tight_row E K c L n ≡ 0
  enough_tight e = none_tight E K c L n (λ i row. if_enough E K c L i (each i row))
    where
      each : (i : ℕ) → i < n → (s : ℕ) → c ≤ s → s < L → begins E K c i s ≡ true → short E K i s ≡ false
      each i row s l u b =
          ⊎_elim (λ (q : c ≡ s). rw (← q) (e.now i row))
          (λ (v : c < s).
          let q : suc (s - 1) ≡ s = omega arith in
          ⊎_elim (λ (w : s ≡ c). absurd (omega arith)) (λ (w : E i (s - 1) ≡ s). rw q at (e.later i (s - 1) row (omega arith) (omega arith) (rw q w))) (begins_cases E K c i s b))
          (eq-or-lt_of_le l)
