-- The refusals of a file before its rows: each way out of the code, and what an acceptance says of the file.
-- Assumes nothing.
use Rattle.std.specs.Prelude.{Some, None, Ok}
use mathlib.Core.Path.{◌≡◌, refl, sym, ap, ◌∙◌}
use mathlib.Core.Bool.{Bool, true, false, not}
use mathlib.Core.List.{List}
use mathlib.Mathlib.Data.Bool.Basic.{or-eq-false-eq-eq-false-and-eq-false as neither}
use Prim.Native.Nat.{ℕ, ◌+◌, ◌≤◌, ◌<◌}
use native.Mathlib.Omega.{arith}
use native.Mathlib.Nat.{pos_of_ne-zero}
use borrow.Author.Tests.{eq-eqb, ne_eqb, lt-ltb, le-ltb, eqb-true, eqb-false, ltb-false}
use lib.Dec.{eqb, ltb}
use lib.ListN.{length}
use Rattle.refusal.specs.declared.Refusal.TheVariants.{Empty, Many, Size, Version}
use Rattle.refusal.specs.Order.{given, or_else, answer}
use Rattle.refusal.proofs.Order.{none_first, none_later, given_not, answer_ok}
use Rattle.tablefile.specs.Layout.{length_for, length_field, following, version_byte, count_byte}
use Rattle.tablefile.specs.Answers.{head_refusal}

-- ---- each way out of the code
module _ (s : List ℕ) where
  pub head_under : length s < 4 → head_refusal s ≡ Some Size
  unfolding head_refusal or_else
  head_under a = simp (lt-ltb (length s) 4 a)

  module _ (a : 4 ≤ length s) (w : ℕ) (is-w : w ≡ length_field s) where
    pub head_differs : (w + 2 ≡ length s → ⊥) → head_refusal s ≡ Some Size
    unfolding head_refusal or_else
    head_differs b = simp (le-ltb (length s) 4 a, ne_eqb (length_field s) (following s) (λ q. b (omega arith)))

    module _ (b : w + 2 ≡ length s) (v : ℕ) (is-v : v ≡ version_byte s) where
      len : length_field s ≡ following s
      len = omega arith

      pub head_version : (v ≡ 1 → ⊥) → head_refusal s ≡ Some Version
      unfolding head_refusal or_else
      head_version d = simp (le-ltb (length s) 4 a, eq-eqb (length_field s) (following s) len, ne_eqb (version_byte s) 1 (λ q. d (is-v ∙ q)))

      module _ (d : v ≡ 1) (n : ℕ) (is-n : n ≡ count_byte s) where
        one : version_byte s ≡ 1
        one = sym is-v ∙ d

        pub head_empty : n ≡ 0 → head_refusal s ≡ Some Empty
        unfolding head_refusal or_else
        head_empty e = simp (le-ltb (length s) 4 a, eq-eqb (length_field s) (following s) len, eq-eqb (version_byte s) 1 one, eq-eqb (count_byte s) 0 (sym is-n ∙ e))

        module _ (e : n ≡ 0 → ⊥) where
          some : count_byte s ≡ 0 → ⊥
          some q = e (is-n ∙ q)

          -- what is left to ask
          left : head_refusal s ≡ or_else (given (ltb 16 (count_byte s)) Many) (given (not (eqb (length_field s) (length_for (count_byte s)))) Size)
          unfolding head_refusal or_else
          left = simp (le-ltb (length s) 4 a, eq-eqb (length_field s) (following s) len, eq-eqb (version_byte s) 1 one, ne_eqb (count_byte s) 0 some)

          pub head_many : 16 < n → head_refusal s ≡ Some Many
          unfolding or_else
          head_many f = left ∙ simp (lt-ltb 16 (count_byte s) (omega arith))

          module _ (f : n ≤ 16) where
            few : count_byte s ≤ 16
            few = omega arith

            pub head_size : (w ≡ length_for n → ⊥) → head_refusal s ≡ Some Size
            unfolding or_else
            head_size g = left ∙ simp (le-ltb 16 (count_byte s) few, ne_eqb (length_field s) (length_for (count_byte s)) (λ q. g (omega arith)))

            pub head_none : w ≡ length_for n → head_refusal s ≡ None
            unfolding or_else
            head_none g = left ∙ simp (le-ltb 16 (count_byte s) few, eq-eqb (length_field s) (length_for (count_byte s)) (omega arith))

            pub head_ok : w ≡ length_for n → Ok n ≡ answer (head_refusal s) (count_byte s)
            head_ok g = ap Ok is-n ∙ answer_ok (head_refusal s) (count_byte s) (head_none g)

-- ---- what an acceptance says of a file
pub record Headed (s : List ℕ) : Type 0 where
  pub whole : 4 ≤ length s
  pub length_field_lem : length_field s ≡ following s
  pub version : version_byte s ≡ 1
  pub some : 0 < count_byte s
  pub few : count_byte s ≤ 16
  pub size : length_field s ≡ length_for (count_byte s)

not_not : (b : Bool) → not b ≡ false → b ≡ true
not_not true e = refl
not_not false e = sym e

pub headed : (s : List ℕ) → head_refusal s ≡ None → Headed s
unfolding head_refusal
headed s e =
    let e₂ = none_later _ _ e in
    let e₃ = none_later _ _ e₂ in
    let e₄ = none_later _ _ e₃ in
    let e₅ = none_later _ _ e₄ in
    let first = (neither _ _).0 (given_not _ Size (none_first _ _ e)) in
    record {
      whole = ltb-false (length s) 4 first.0;
      length_field_lem = eqb-true _ _ (not_not _ first.1);
      version = eqb-true _ _ (not_not _ (given_not _ Version (none_first _ _ e₂)));
      some = pos_of_ne-zero (eqb-false _ _ (given_not _ Empty (none_first _ _ e₃)));
      few = ltb-false 16 (count_byte s) (given_not _ Many (none_first _ _ e₄));
      size = eqb-true _ _ (not_not _ (given_not _ Size e₅));
    }
