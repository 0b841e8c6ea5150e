-- The cases of a row's fault and the turns of the loop over the rows, each from the facts on the code's way to it.
-- Assumes nothing.
use mathlib.Core.Path.{◌≡◌, sym, ◌∙◌, ap}
use mathlib.Core.Bool.{true, false}
use mathlib.Core.List.{List}
use Prim.Native.Nat.{ℕ, ◌+◌, ◌≤◌, ◌<◌}
use borrow.Author.Tests.{lt-ltb, le-ltb}
use lib.ListN.{length, drop, drop_of_length-le}
use Rattle.std.proofs.lemmas.List.{drop_more}
use Rattle.std.specs.Prelude.{Option, None, Ok, Err}
use Rattle.refusal.specs.declared.Refusal.{Refusal}
use Rattle.refusal.specs.declared.Refusal.TheVariants.{Zero, Long, Order}
use Rattle.refusal.specs.Order.{or_else, verdict}
use Rattle.refusal.proofs.Order.{passes, answer_ok, answer_err, err_some, ok_none}
use Rattle.table.specs.declared.Row.{Row}
use Rattle.table.specs.Rows.{row_at}
use Rattle.table.specs.Check.{is_zero, is_long, fault_of, faults_of}

-- ---- one row, by the tests in the code's order
module _ (k before : ℕ) (r : Row) where
  pub fault_zero : is_zero r ≡ true → Err (Zero k) ≡ verdict (fault_of k before r)
  unfolding fault_of or_else
  fault_zero a = simp a

  module _ (a : is_zero r ≡ false) where
    pub fault_long : is_long r ≡ true → Err (Long k) ≡ verdict (fault_of k before r)
    unfolding fault_of or_else
    fault_long b = simp (a, b)

    module _ (b : is_long r ≡ false) where
      pub fault_order : r.period < before → Err (Order k) ≡ verdict (fault_of k before r)
      unfolding fault_of or_else
      fault_order g = simp (a, b, lt-ltb _ _ g)

      pub fault_none : before ≤ r.period → fault_of k before r ≡ None
      unfolding fault_of or_else
      fault_none g = simp (a, b, le-ltb _ _ g)

      pub fault_fits : before ≤ r.period → Ok tt ≡ verdict (fault_of k before r)
      fault_fits g = answer_ok _ _ (fault_none g)

-- ---- the loop at row i, counted from 0: the faults of the rows are those from here on
module _ (rs : List Row) (i before : ℕ) (inv : faults_of 1 0 rs ≡ faults_of (i + 1) before (drop i rs)) where
  module _ (h : i < length rs) where
    turned : faults_of 1 0 rs ≡ or_else (fault_of (i + 1) before (row_at rs i)) (faults_of (i + 1 + 1) (row_at rs i).period (drop (i + 1) rs))
    unfolding faults_of
    turned = inv ∙ ap (faults_of (i + 1) before) (drop_more rs i _ h)

    pub faults_go : (u : Unit) → verdict (fault_of (i + 1) before (row_at rs i)) ≡ Ok u → faults_of 1 0 rs ≡ faults_of (i + 1 + 1) (row_at rs i).period (drop (i + 1) rs)
    faults_go u b = turned ∙ sym (passes _ _ (ok_none _ _ u b))

    pub faults_stop : (f : Refusal) → verdict (fault_of (i + 1) before (row_at rs i)) ≡ Err f → Err f ≡ verdict (faults_of 1 0 rs)
    unfolding or_else
    faults_stop f b = answer_err _ _ f (turned ∙ ap (λ (g : Option Refusal). or_else g later) (err_some _ _ f b))
      where
        later : Option Refusal
        later = faults_of (i + 1 + 1) (row_at rs i).period (drop (i + 1) rs)

  pub faults_end : length rs ≤ i → Ok tt ≡ verdict (faults_of 1 0 rs)
  unfolding faults_of
  faults_end h = answer_ok _ _ (inv ∙ ap (faults_of (i + 1) before) (drop_of_length-le rs h))
