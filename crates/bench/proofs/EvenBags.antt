-- The spans of bags of the same size, as they are filled in.
-- Assumes nothing.
use mathlib.Core.Path.{◌≡◌, refl, sym, ap, ap₂, ◌∙◌}
use mathlib.Core.List.{List, [], ◌∷◌, ◌++◌}
use Prim.Native.Nat.{ℕ, zero, suc, ◌+◌, ◌*◌, ◌≤◌, ◌<◌}
use native.Mathlib.Numerals.{add-one}
use native.Mathlib.Omega.{arith}
use lib.ListN.{length, get_or, set, take, drop, length-append}
use lib.Seq.{drop-cons, take-append_seam}
use Rattle.bench.specs.Bags.{even_spans}

spans_long : (size n : ℕ) → length (even_spans size n) ≡ 2 * n
unfolding even_spans
spans_long size zero = refl
spans_long size (suc n) = length-append (even_spans size n) (n * size ∷ suc n * size ∷ []) ∙ omega (arith, spans_long size n)

-- two stores, one after the other
two_sets : (xs : List ℕ) (x y : ℕ) (ys : List ℕ) (a b : ℕ) → set (set (xs ++ x ∷ y ∷ ys) (length xs) a) (suc (length xs)) b ≡ (xs ++ a ∷ b ∷ []) ++ ys
two_sets [] x y ys a b = refl
two_sets (z ∷ xs) x y ys a b = ap (λ (r : List ℕ). z ∷ r) (two_sets xs x y ys a b)

first_two : (xs : List ℕ) (k : ℕ) → suc k < length xs → drop k xs ≡ get_or xs k 0 ∷ get_or xs (suc k) 0 ∷ drop (suc (suc k)) xs
first_two xs k l = drop-cons xs k 0 (omega arith) ∙ ap (λ (r : List ℕ). get_or xs k 0 ∷ r) (drop-cons xs (suc k) 0 l)

-- ---- the loop: the spans of the first j bags stand in the places that held `old`
abbrev pub Filled : (size : ℕ) (old spans : List ℕ) (j : ℕ) → Type 0
Filled size old spans j = spans ≡ even_spans size j ++ drop (2 * j) old

module _ (size j : ℕ) (old spans : List ℕ) (g : Filled size old spans j) where
  module _ (a b n : ℕ) (l : j < n) (f : n ≤ 1024) (r : length old ≡ 2048) (d : a ≡ j * size) (e : b ≡ (j + 1) * size) where
    one_more : even_spans size j ++ a ∷ b ∷ [] ≡ even_spans size (j + 1)
    unfolding even_spans
    one_more = rw (d, e, add-one) refl

    pub filled_step : Filled size old (set (set spans (2 * j) a) (2 * j + 1) b) (j + 1)
    filled_step =
        ap₂ (λ (r : List ℕ) (k : ℕ). set (set r k a) (k + 1) b) ahead (sym (spans_long size j))
        ∙ stored
        ∙ ap₂ (λ (r : List ℕ) (k : ℕ). r ++ drop k old) one_more past
      where
        past : suc (suc (2 * j)) ≡ 2 * (j + 1)
        past = omega arith

        stored : set (set (even_spans size j ++ get_or old (2 * j) 0 ∷ get_or old (suc (2 * j)) 0 ∷ drop (suc (suc (2 * j))) old) (length (even_spans size j)) a) (length (even_spans size j) + 1) b ≡ (even_spans size j ++ a ∷ b ∷ []) ++ drop (suc (suc (2 * j))) old
        stored = rw add-one (two_sets (even_spans size j) (get_or old (2 * j) 0) (get_or old (suc (2 * j)) 0) (drop (suc (suc (2 * j))) old) a b)

        ahead : spans ≡ even_spans size j ++ get_or old (2 * j) 0 ∷ get_or old (suc (2 * j)) 0 ∷ drop (suc (suc (2 * j))) old
        ahead = g ∙ ap (λ (r : List ℕ). even_spans size j ++ r) (first_two old (2 * j) (omega (arith, r)))

  pub filled_end : (n : ℕ) → n ≤ j → j ≤ n → take (2 * n) spans ≡ even_spans size n
  filled_end n u v =
      let e : n ≡ j = omega arith in
      rw e
      (ap₂ (λ (k : ℕ) (r : List ℕ). take k r) (sym (spans_long size j)) g
      ∙ take-append_seam (even_spans size j) (drop (2 * j) old))
