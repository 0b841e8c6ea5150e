-- Bytes written one after the other.
-- Assumes nothing.
use mathlib.Core.Path.{◌≡◌, refl, sym, ◌∙◌}
use mathlib.Core.Logic.{⊎_elim}
use mathlib.Core.List.{List}
use Prim.Native.Nat.{ℕ, ◌+◌, ◌-◌, ◌≤◌, ◌<◌}
use native.Mathlib.Nat.{eq-or-lt_of_le}
use native.Mathlib.Omega.{arith}
use lib.ListN.{length, get_or, set, length-set}
use lib.Seq.{get_or-set_same, get_or-set_other}
use Rattle.rule.proofs.Tests.{side}
use Rattle.slots.specs.Buffer.{Written}

pub written_start : (a : ℕ) (f : ℕ → ℕ) (old : List ℕ) → Written a a f old old
written_start a f old = record { size = refl; inside = λ s l u. absurd (omega arith); behind = λ s l. refl; beyond = λ s l. refl }

module _ {f : ℕ → ℕ} {old : List ℕ} where
  -- the next byte after them
  pub written_up : {a s x : ℕ} {out : List ℕ} → Written a s f old out → a ≤ s → s < length old → x ≡ f s → Written a (s + 1) f old (set out s x)
  written_up {a} {s} {x} {out} g l room e = record {
    size = simp length-set g.size;
    inside = λ t u v.
        ⊎_elim (λ (m : t < s). get_or-set_other out s t x 0 (λ q. omega arith) ∙ g.inside t u m)
        (λ (m : s ≤ t). let q : t ≡ s = omega arith in rw q (get_or-set_same out s x 0 (omega (arith, g.size)) ∙ e)) (side t s);
    behind = λ t u. get_or-set_other out s t x 0 (λ q. omega arith) ∙ g.behind t u;
    beyond = λ t u. get_or-set_other out s t x 0 (λ q. omega arith) ∙ g.beyond t (omega arith);
  }

  pub written_end : {a s b : ℕ} {out : List ℕ} → Written a s f old out → s ≤ b → b ≤ s → Written a b f old out
  written_end {a} {s} {b} g l u = let q : s ≡ b = omega arith in rw q at g

  -- the next byte before them
  pub written_down : {s b x : ℕ} {out : List ℕ} → Written s b f old out → 0 < s → s ≤ b → b ≤ length old → x ≡ f (s - 1) → Written (s - 1) b f old (set out (s - 1) x)
  written_down {s} {b} {x} {out} g p l room e = record {
    size = simp length-set g.size;
    inside = λ t u v.
        ⊎_elim (λ (q : s - 1 ≡ t). rw (← q) (get_or-set_same out (s - 1) x 0 (omega (arith, g.size)) ∙ e))
        (λ (m : s - 1 < t). get_or-set_other out (s - 1) t x 0 (λ q. omega arith) ∙ g.inside t (omega arith) v) (eq-or-lt_of_le u);
    behind = λ t u. get_or-set_other out (s - 1) t x 0 (λ q. omega arith) ∙ g.behind t (omega arith);
    beyond = λ t u. get_or-set_other out (s - 1) t x 0 (λ q. omega arith) ∙ g.beyond t u;
  }

  -- more bytes before them, which f leaves as they were
  pub written_kept : {a s b : ℕ} {out : List ℕ} → Written s b f old out → a ≤ s → ((t : ℕ) → a ≤ t → t < s → f t ≡ get_or old t 0) → Written a b f old out
  written_kept {a} {s} {b} {out} g l same = record {
    size = g.size;
    inside = λ t u v. ⊎_elim (λ (m : t < s). g.behind t m ∙ sym (same t u m)) (λ (m : s ≤ t). g.inside t m v) (side t s);
    behind = λ t u. g.behind t (omega arith);
    beyond = g.beyond;
  }

  -- and after them, by another writer
  pub written_join : {a b c : ℕ} {h : ℕ → ℕ} {mid out : List ℕ} → Written a b f old mid → Written b c h mid out → a ≤ b → b ≤ c
      → ((t : ℕ) → b ≤ t → t < c → h t ≡ f t) → Written a c f old out
  written_join {a} {b} {c} {h} {mid} {out} g k l m same = record {
    size = k.size ∙ g.size;
    inside = λ t u v. ⊎_elim (λ (p : t < b). k.behind t p ∙ g.inside t u p) (λ (p : b ≤ t). k.inside t p v ∙ same t p v) (side t b);
    behind = λ t u. k.behind t (omega arith) ∙ g.behind t u;
    beyond = λ t u. k.beyond t u ∙ g.beyond t (omega arith);
  }
