-- Document 01's words on any assignment of slots to rows: A i s says that row i, counted from 0, reserves slot s.
-- Assumes nothing: these are definitions.
use Rattle.std.specs.Prelude.{◌≡◌, Bool, true, false, ◌||◌, ℕ, zero, suc, ◌≤◌, ◌<◌}
use Rattle.rule.specs.Slots.{within}
use Rattle.rule.specs.Rule.{begins}

-- one of the rows above row i reserves slot s
unfoldable pub above : (ℕ → ℕ → Bool) → ℕ → ℕ → Bool
above A zero s = false
above A (suc i) s = above A i s || A i s

-- 'Each job reserves the latest a slots of its window that no higher row holds': the window is from w up to, not including, e, a is `claim`,
-- `higher` says what a higher row holds, and `mine` what the job reserves
pub record Reserves (higher mine : ℕ → Bool) (w e claim : ℕ) : Type 0 where
  -- 'a slots of its window'
  pub exactly : within mine w e ≡ claim
  -- 'that no higher row holds'
  pub free : (s : ℕ) → w ≤ s → s < e → mine s ≡ true → higher s ≡ false
  -- 'the latest': of the slots that no higher row holds, none that comes after a reserved one is left out
  pub latest : (s t : ℕ) → w ≤ s → s < t → t < e → mine s ≡ true → higher t ≡ false → mine t ≡ true

-- 'Take the rows from row 1 down.' Each job of n rows reserves so, of those with windows in the slots from c up to, not including, L, where c is the first usable slot
unfoldable pub Follows : (E K : ℕ → ℕ → ℕ) → ℕ → ℕ → ℕ → (ℕ → ℕ → Bool) → Type 0
Follows E K n c L A = (i w : ℕ) → i < n → c ≤ w → w < L → begins E K c i w ≡ true → Reserves (above A i) (A i) w (E i w) (K i w)
