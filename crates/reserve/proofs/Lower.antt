-- The first row of two tests together is the lower of their first rows.
-- Assumes nothing.
use mathlib.Core.Path.{◌≡◌, refl, sym, ◌∙◌}
use mathlib.Core.Logic.{⊎_elim}
use mathlib.Core.Bool.{Bool, ◌||◌}
use Prim.Native.Nat.{ℕ, zero, suc, ◌≤◌, ◌<◌}
use native.Mathlib.Omega.{arith}
use borrow.Author.Tests.{ne_eqb, lt-ltb, le-ltb}
use Rattle.rule.specs.Slots.{first_row}
use Rattle.rule.proofs.Tests.{side, or_left, or_right, or_none}
use Rattle.rule.proofs.FirstRow.{FirstAt, none_found, found_none, row_first, first_row_lem}
use Rattle.reserve.specs.Turns.{lower_of}

lower_left : (a b : ℕ) → a < b → lower_of (suc a) (suc b) ≡ suc a
unfolding lower_of
lower_left a b l = simp (ne_eqb (suc a) 0 (λ e. omega arith), ne_eqb (suc b) 0 (λ e. omega arith), lt-ltb (suc a) (suc b) (omega arith))

lower_right : (a b : ℕ) → b ≤ a → lower_of (suc a) (suc b) ≡ suc b
unfolding lower_of
lower_right a b l = simp (ne_eqb (suc a) 0 (λ e. omega arith), ne_eqb (suc b) 0 (λ e. omega arith), le-ltb (suc a) (suc b) (omega arith))

lower_none : (a : ℕ) → lower_of (suc a) 0 ≡ suc a
unfolding lower_of
lower_none a = simp (ne_eqb (suc a) 0 (λ e. omega arith))

module _ (P Q : ℕ → Bool) (n : ℕ) where
  -- both first rows, by their cases
  by_cases : (a b : ℕ) → first_row P n ≡ a → first_row Q n ≡ b → first_row (λ i. P i || Q i) n ≡ lower_of a b
  unfolding lower_of
  by_cases zero zero p q = found_none (λ i. P i || Q i) n (λ i l. or_none (P i) (Q i) (none_found P n p i l) (none_found Q n q i l))
  by_cases zero (suc b) p q =
      let f : FirstAt Q n b = row_first Q n b q in
      first_row_lem (λ i. P i || Q i) n b (record {
        row = f.row;
        here = or_right (P b) (Q b) f.here;
        none_before = λ j l. or_none (P j) (Q j) (none_found P n p j (omega (arith, f.row))) (f.none_before j l);
      })
  by_cases (suc a) zero p q =
      let f : FirstAt P n a = row_first P n a p in
      first_row_lem (λ i. P i || Q i) n a (record {
        row = f.row;
        here = or_left (P a) (Q a) f.here;
        none_before = λ j l. or_none (P j) (Q j) (f.none_before j l) (none_found Q n q j (omega (arith, f.row)));
      })
      ∙ sym (lower_none a)
  by_cases (suc a) (suc b) p q =
      let f : FirstAt P n a = row_first P n a p in
      let g : FirstAt Q n b = row_first Q n b q in
      ⊎_elim
      (λ (u : a < b).
      first_row_lem (λ i. P i || Q i) n a (record {
        row = f.row;
        here = or_left (P a) (Q a) f.here;
        none_before = λ j l. or_none (P j) (Q j) (f.none_before j l) (g.none_before j (omega arith));
      })
      ∙ sym (lower_left a b u))
      (λ (u : b ≤ a).
      first_row_lem (λ i. P i || Q i) n b (record {
        row = g.row;
        here = or_right (P b) (Q b) g.here;
        none_before = λ j l. or_none (P j) (Q j) (f.none_before j (omega arith)) (g.none_before j l);
      })
      ∙ sym (lower_right a b u))
      (side a b)

  pub first_of_two : first_row (λ i. P i || Q i) n ≡ lower_of (first_row P n) (first_row Q n)
  first_of_two = by_cases (first_row P n) (first_row Q n) refl refl
