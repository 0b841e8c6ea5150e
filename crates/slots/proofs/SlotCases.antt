-- The work that a log's byte stands for, case by case.
-- Assumes nothing.
use mathlib.Core.Path.{◌≡◌, refl}
use Prim.Native.Nat.{ℕ, zero, suc, ◌-◌, ◌≤◌, ◌<◌}
use native.Mathlib.Omega.{arith}
use borrow.Author.Tests.{lt-ltb, le-ltb}
use Rattle.slots.specs.OneSlot.{idle, primary, alternate}
use Rattle.slots.specs.History.{work_of}

pub byte_idle : (ran : ℕ) → ran ≡ 0 → work_of ran ≡ idle
unfolding work_of
byte_idle ran e = rw e refl

pub byte_primary : (ran : ℕ) → (ran ≡ 0 → ⊥) → ran ≤ 16 → work_of ran ≡ primary (ran - 1)
unfolding work_of
byte_primary zero h l = absurd (h refl)
byte_primary (suc b) h l = let e : suc b - 1 ≡ b = omega arith in rw (lt-ltb b 16 (omega arith), e) refl

pub byte_alternate : (ran : ℕ) → 16 < ran → work_of ran ≡ alternate (ran - 17)
unfolding work_of
byte_alternate zero l = absurd (omega arith)
byte_alternate (suc b) l = let e : suc b - 17 ≡ b - 16 = omega arith in rw (le-ltb b 16 (omega arith), e) refl
