-- One job's reservations in the buffer, from its window's end down.
-- Assumes nothing.
use mathlib.Core.Path.{◌≡◌, refl, sym, ap, ◌∙◌}
use mathlib.Core.Bool.{Bool, true, false, not, cond, ◌&&◌, ◌||◌}
use mathlib.Core.List.{List}
use Prim.Native.Nat.{ℕ, suc, ◌+◌, ◌-◌, ◌≤◌, ◌<◌}
use native.Mathlib.Nat.{pos_of_ne-zero}
use native.Mathlib.Omega.{arith}
use lib.Dec.{ltb, eqb}
use lib.ListN.{length, get_or, set}
use borrow.Author.Tests.{lt-ltb, le-ltb}
use Rattle.rule.specs.Rule.{between}
use Rattle.rule.proofs.Counting.{gap, between_step, between_none, within_later}
use Rattle.slots.specs.Buffer.{Written, foreign, byte_after}
use Rattle.slots.proofs.Written.{written_start, written_down, written_kept}

-- the slots from s on are passed, and `left` is what the free ones and the row's own among them leave of the claim
pub record Holding (row first end units : ℕ) (old out : List ℕ) (s left : ℕ) : Type 0 where
  pub from : first ≤ s
  pub upto : s ≤ end
  pub rest : left ≡ units - between (foreign row old) s end
  pub bytes : Written s end (byte_after row end units old) old out

pub holding_start : (row first end units : ℕ) (old : List ℕ) → first ≤ end → Holding row first end units old old end units
holding_start row first end units old l = record {
  from = l;
  upto = omega arith;
  rest = omega (arith, between_none (foreign row old) end end (omega arith));
  bytes = written_start end (byte_after row end units old) old;
}

-- while fewer slots than the claim are passed, the test of the byte alone decides
took : (o : Bool) (n k row b : ℕ) → n < k → cond o row b ≡ cond (not (not o) && ltb n k) row b
took true n k row b l = rw (lt-ltb n k l)
took false n k row b l = refl

spent : (o : Bool) (n k : ℕ) → cond o (k - n - 1) (k - n) ≡ k - (gap (not o) + n)
spent true n k = omega arith
spent false n k = omega arith

-- and once the claim is met no slot is taken
passed : (h : Bool) (n k row b : ℕ) → k ≤ n → cond (not h && ltb n k) row b ≡ b
passed true n k row b l = refl
passed false n k row b l = rw (le-ltb n k l)

module _ {row first end units s left : ℕ} {old out : List ℕ} (g : Holding row first end units old out s left) where
  pub holding_step : first < s → (left ≡ 0 → ⊥) → end ≤ length old → {x y : ℕ} → x ≡ cond (eqb (get_or out (s - 1) 0) 0 || eqb (get_or out (s - 1) 0) row) row (get_or out (s - 1) 0)
      → y ≡ cond (eqb (get_or out (s - 1) 0) 0 || eqb (get_or out (s - 1) 0) row) (left - 1) left → Holding row first end units old (set out (s - 1) x) (s - 1) y
  holding_step l p room {x} {y} ex ey =
      let H = foreign row old in
      let b = get_or out (s - 1) 0 in
      let some : 0 < left = pos_of_ne-zero p in
      let same : b ≡ get_or old (s - 1) 0 = g.bytes.behind (s - 1) (omega arith) in
      let next : suc (s - 1) ≡ s = omega arith in
      let o : Bool = eqb (get_or old (s - 1) 0) 0 || eqb (get_or old (s - 1) 0) row in
      let down : between H (s - 1) end ≡ gap (H (s - 1)) + between H s end = rw next at (between_step H (s - 1) end (omega (arith, g.upto))) in
      record {
        from = omega arith;
        upto = omega (arith, g.upto);
        rest = ey ∙ rw (same, g.rest) (spent o (between H s end) units) ∙ ap (λ (n : ℕ). units - n) (sym down);
        bytes =
            written_down g.bytes (omega arith) g.upto room
            (ex ∙ rw (same, next) (took o (between H s end) units row (get_or old (s - 1) 0) (omega (arith, g.rest))));
      }

  -- nothing is left to claim
  pub holding_met : left ≡ 0 → Written first end (byte_after row end units old) old out
  holding_met z =
      let H = foreign row old in
      written_kept g.bytes g.from
      (λ t u v.
      passed (H t) (between H (suc t) end) units row (get_or old t 0) (omega (arith, g.rest, within_later (λ x. not (H x)) (suc t) s end v)))
