-- Refusals one after another: which of two is given, and what an acceptance says of both.
-- Assumes nothing.
use mathlib.Core.Path.{◌≡◌, refl, sym, ap, ◌∙◌}
use mathlib.Core.Bool.{Bool, true, false, cond}
use Prim.Native.Nat.{ℕ, ◌<◌}
use native.Mathlib.Omega.{arith}
use Rattle.std.proofs.lemmas.Bool.{false≢true}
use Rattle.std.proofs.lemmas.Option.{none-some}
use Rattle.std.specs.Result.{result_ok, result_err, result_unwrap_or}
use Rattle.refusal.specs.declared.Refusal.{Refusal}
use Rattle.refusal.specs.declared.Refusal.TheVariants.{Empty, Many, Zero, Long, Order, Cycle, Tight, Room, Record, Report, Stray, Size, Version, Dosing, Spans}
use Rattle.std.specs.Prelude.{Option, Some, None, Result, Ok, Err}
use Rattle.refusal.specs.Numbers.{number_of, number_told}
use Rattle.refusal.specs.Order.{accepted, given, or_else, beside, answer}

-- ---- only None is accepted
pub accepted_none : (f : Option Refusal) → accepted f ≡ true → f ≡ None
accepted_none None e = refl
accepted_none (Some f) e = absurd (false≢true e)

-- ---- only None has the number 0
number_some : (f : Refusal) → 0 < number_of f
number_some Empty = omega arith
number_some Many = omega arith
number_some (Zero k) = omega arith
number_some (Long k) = omega arith
number_some (Order k) = omega arith
number_some Cycle = omega arith
number_some (Tight k) = omega arith
number_some Room = omega arith
number_some Record = omega arith
number_some Report = omega arith
number_some Stray = omega arith
number_some Size = omega arith
number_some Version = omega arith
number_some Dosing = omega arith
number_some Spans = omega arith

pub number_none : (o : Option Refusal) → number_told o ≡ 0 → o ≡ None
number_none None e = refl
number_none (Some f) e = absurd (omega (arith, number_some f))

-- ---- a refusal that a `match` has told from None
abbrev pub Told : Option Refusal → Type 0
Told f = f ≡ None → ⊥

pub refused : (f : Option Refusal) → Told f → accepted f ≡ false
refused f p = go (accepted f) refl
  where
    go : (b : Bool) → accepted f ≡ b → b ≡ false
    go true e = absurd (p (accepted_none f e))
    go false e = refl

-- ---- the first of two that applies
module _ (f later : Option Refusal) where
  pub keeps : Told f → f ≡ or_else f later
  unfolding or_else
  keeps p = simp (refused f p)

  pub passes : f ≡ None → later ≡ or_else f later
  unfolding or_else
  passes e = rw e

  -- an acceptance of both
  pub none_first : or_else f later ≡ None → f ≡ None
  unfolding or_else
  none_first = go (accepted f) refl
    where
      go : (b : Bool) → accepted f ≡ b → cond b later f ≡ None → f ≡ None
      go true a e = accepted_none f a
      go false a e = e

  pub none_later : or_else f later ≡ None → later ≡ None
  none_later e = passes (none_first e) ∙ e

pub given_not : (test : Bool) (f : Refusal) → given test f ≡ None → test ≡ false
given_not true f e = absurd (none-some f (sym e))
given_not false f e = refl

-- ---- a figure beside a refusal, and beside none
pub beside_not : (f : Option Refusal) (x : ℕ) → accepted f ≡ false → 0 ≡ beside f x
unfolding beside
beside_not f x h = rw h

pub beside_none : (f : Option Refusal) (x : ℕ) → f ≡ None → x ≡ beside f x
unfolding beside
beside_none f x e = rw e

-- ---- a figure or a refusal: which of the two, and that it is this one
module _ {A : Type 0} where
  pub answer_ok : (o : Option Refusal) (x : A) → o ≡ None → Ok x ≡ answer o x
  answer_ok o x e = rw e

  pub answer_err : (o : Option Refusal) (x : A) (f : Refusal) → o ≡ Some f → Err f ≡ answer o x
  answer_err o x f e = rw e

  pub ok_none : (o : Option Refusal) (x y : A) → answer o x ≡ Ok y → o ≡ None
  ok_none None x y e = refl
  ok_none (Some f) x y e = absurd (none-some y (ap result_ok e))

  pub ok_figure : (o : Option Refusal) (x y : A) → answer o x ≡ Ok y → x ≡ y
  ok_figure None x y e = ap (λ (r : Result A Refusal). result_unwrap_or r x) e
  ok_figure (Some f) x y e = absurd (none-some y (ap result_ok e))

  pub answer_refusal : (o : Option Refusal) (x : A) → result_err (answer o x) ≡ o
  answer_refusal None x = refl
  answer_refusal (Some f) x = refl

  pub err_some : (o : Option Refusal) (x : A) (f : Refusal) → answer o x ≡ Err f → o ≡ Some f
  err_some None x f e = absurd (none-some x (sym (ap result_ok e)))
  err_some (Some g) x f e = ap result_err e

-- a caller who takes 0 for a refusal has the figure beside it
pub answer_beside : (o : Option Refusal) (x : ℕ) → result_unwrap_or (answer o x) 0 ≡ beside o x
unfolding beside
answer_beside None x = refl
answer_beside (Some f) x = refl

pub answer_again : (o : Option Refusal) (x : ℕ) → answer o x ≡ answer o (result_unwrap_or (answer o x) 0)
answer_again None x = refl
answer_again (Some f) x = refl
