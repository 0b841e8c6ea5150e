-- What stands in lent memory after a call, and how stores come to it.
-- Assumes nothing.
use mathlib.Core.Path.{◌≡◌, ap, ◌∙◌}
use mathlib.Core.List.{List, [], ◌∷◌, ◌++◌}
use Prim.Native.Nat.{ℕ, suc, ◌+◌, ◌≤◌}
use native.Mathlib.Nat.{zero-add}
use native.Mathlib.Omega.{arith}
use lib.ListN.{length, drop, set}
use lib.Seq.{sets, sets-eq}
use Rattle.refusal.specs.declared.Refusal.{Refusal}
use Rattle.std.specs.Prelude.{Option, Some, None}
use Rattle.refusal.specs.Lent.{overlaid}

module _ (f : Option Refusal) (new old : List ℕ) where
  pub overlaid_none : f ≡ None → new ++ drop (length new) old ≡ overlaid f new old
  unfolding overlaid
  overlaid_none e = rw e

pub overlaid_some : (o : Option Refusal) (f : Refusal) (new old : List ℕ) → o ≡ Some f → old ≡ overlaid o new old
unfolding overlaid
overlaid_some o f new old e = rw e

-- stores after stores
pub sets_more : (xs ys l : List ℕ) (a : ℕ) → sets (sets l a xs) (a + length xs) ys ≡ sets l a (xs ++ ys)
sets_more [] ys l a = let e : a + 0 ≡ a = omega arith in ap (λ (k : ℕ). sets l k ys) e
sets_more (x ∷ xs) ys l a =
    let e : a + suc (length xs) ≡ suc a + length xs = omega arith in
    ap (λ (k : ℕ). sets (sets (set l a x) (suc a) xs) k ys) e ∙ sets_more xs ys (set l a x) (suc a)

-- stores from the first place on
pub sets_laid : (new old : List ℕ) → length new ≤ length old → sets old 0 new ≡ new ++ drop (length new) old
sets_laid new old h = sets-eq new old 0 (omega arith) ∙ ap (λ (k : ℕ). new ++ drop k old) (zero-add (length new))
