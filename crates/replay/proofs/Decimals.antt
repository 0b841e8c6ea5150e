-- The digits that `io` spells are the number in decimal.
-- Assumes nothing.
use mathlib.Core.Path.{◌≡◌, refl, sym, ap, ◌∙◌, subst}
use mathlib.Core.Logic.{⊎_elim}
use mathlib.Core.Bool.{Bool, cond}
use mathlib.Core.List.{List, [], ◌∷◌, ◌++◌}
use Prim.Native.Nat.{ℕ, zero, suc, ◌-◌, ◌/◌, ◌%◌, ◌^◌, ◌≤◌, ◌<◌}
use native.Mathlib.Nat.{pow-suc, pow-le-pow_right}
use native.Mathlib.Omega.{arith}
use lib.ListN.{take}
use borrow.Author.Tests.{lt-ltb, le-ltb}
use Rattle.io.specs.Digits.{hex_digit_ascii, last_digits, IsDigitCount}
use Rattle.rule.proofs.Tests.{side}
use Rattle.replay.specs.Texts.{decimal_in, decimal}
use Rattle.replay.specs.Turns.{Laid}
use Rattle.replay.proofs.Laying.{laid_is}

-- in enough digits the fewest are spelled
digits_in : (f n k : ℕ) → IsDigitCount 10 1 n k → k ≤ suc f → last_digits 10 k n ≡ decimal_in f n
unfolding decimal_in
digits_in f n zero w l = absurd (omega arith)
digits_in zero n (suc zero) w l = refl
digits_in (suc f) n (suc zero) w l =
    let e : n % 10 ≡ n = omega arith in
    ap (λ (d : ℕ). hex_digit_ascii d ∷ []) e ∙ ap (λ (b : Bool). cond b (hex_digit_ascii n ∷ []) (decimal_in f (n / 10) ++ hex_digit_ascii (n % 10) ∷ [])) (sym (lt-ltb n 10 w.1))
digits_in zero n (suc (suc j)) w l = absurd (omega arith)
digits_in (suc f) n (suc (suc j)) w l =
    let a : suc (suc j) - 1 ≡ suc j = omega arith in
    let b : suc j - 1 ≡ j = omega arith in
    let low : 10 ^ suc j ≤ n = subst (λ (k : ℕ). 10 ^ k ≤ n) a (w.2 (omega arith)) in
    let one : 10 ^ 0 ≤ 10 ^ j = pow-le-pow_right (omega arith) {i = 0} {j = j} (omega arith) in
    let ten : 10 ≤ n = omega (arith, pow-suc 10 j) in
    let less : IsDigitCount 10 1 (n / 10) (suc j) = (
      omega arith,
      omega (arith, w.1, pow-suc 10 (suc j)),
      λ _. subst (λ (k : ℕ). 10 ^ k ≤ n / 10) (sym b) (omega (arith, pow-suc 10 j)),
    ) in
    rw (le-ltb n 10 ten) (ap (λ (ds : List ℕ). ds ++ (hex_digit_ascii (n % 10) ∷ [])) (digits_in f (n / 10) (suc j) less (omega arith)))

power_up : (j : ℕ) → j < 10 ^ j
power_up zero = omega arith
power_up (suc j) = omega (arith, power_up j, pow-suc 10 j)

digits_decimal : (n k : ℕ) → IsDigitCount 10 1 n k → last_digits 10 k n ≡ decimal n
digits_decimal n k w =
    digits_in n n k w
    (⊎_elim (λ (h : k < 2). omega arith) (λ (h : 2 ≤ k). let low : 10 ^ (k - 1) ≤ n = w.2 (omega arith) in omega (arith, power_up (k - 1))) (side k 2))

-- spelled at the start of an array and copied
pub number_laid : {old new : List ℕ} {at e : ℕ} (ds : List ℕ) (n k : ℕ) → IsDigitCount 10 1 n k → take k ds ≡ last_digits 10 k n
    → Laid old at (take k ds) new e → Laid old at (decimal n) new e
number_laid ds n k w s g = laid_is (s ∙ digits_decimal n k w) g
