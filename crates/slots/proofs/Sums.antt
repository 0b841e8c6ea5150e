-- Sums of numbers.
-- Assumes nothing.
use mathlib.Core.Path.{◌≡◌, refl, sym, ap, ◌∙◌}
use mathlib.Core.Logic.{◌≢◌, ⊎_elim}
use Prim.Native.Nat.{ℕ, zero, suc, ◌+◌, ◌-◌, ◌*◌, ◌≤◌, ◌<◌}
use native.Mathlib.Nat.{eq-or-lt_of_le}
use native.Mathlib.Omega.{arith}
use Rattle.slots.specs.LostUnits.{sum}

-- of no terms, and with one more
pub sum_none : (f : ℕ → ℕ) → sum f 0 ≡ 0
unfolding sum
sum_none f = refl

pub sum_more : (f : ℕ → ℕ) (n : ℕ) → sum f (suc n) ≡ sum f n + f n
unfolding sum
sum_more f n = refl

-- the first term and the rest
pub sum_front : (f : ℕ → ℕ) (n : ℕ) → sum f (suc n) ≡ f 0 + sum (λ i. f (suc i)) n
sum_front f zero = omega (arith, sum_more f 0, sum_none f, sum_none (λ i. f (suc i)))
sum_front f (suc n) = omega (arith, sum_more f (suc n), sum_more (λ i. f (suc i)) n, sum_front f n)

-- ---- by the terms
pub sum_same : (f g : ℕ → ℕ) (n : ℕ) → ((i : ℕ) → i < n → f i ≡ g i) → sum f n ≡ sum g n
sum_same f g zero h = sum_none f ∙ sym (sum_none g)
sum_same f g (suc n) h = omega (arith, sum_more f n, sum_more g n, h n (omega arith), sum_same f g n (λ i l. h i (omega arith)))

pub sum_less : (f g : ℕ → ℕ) (n : ℕ) → ((i : ℕ) → i < n → f i ≤ g i) → sum f n ≤ sum g n
sum_less f g zero h = omega (arith, sum_none f)
sum_less f g (suc n) h = omega (arith, sum_more f n, sum_more g n, h n (omega arith), sum_less f g n (λ i l. h i (omega arith)))

pub sum_most : (f : ℕ → ℕ) (b n : ℕ) → ((i : ℕ) → i < n → f i ≤ b) → sum f n ≤ n * b
sum_most f b zero h = omega (arith, sum_none f)
sum_most f b (suc n) h = omega (arith, sum_more f n, h n (omega arith), sum_most f b n (λ i l. h i (omega arith)))

pub sum_zero : (f : ℕ → ℕ) (n : ℕ) → ((i : ℕ) → i < n → f i ≡ 0) → sum f n ≡ 0
sum_zero f n h = omega (arith, sum_most f 0 n (λ i l. omega (arith, h i l)))

-- no term but the k-th adds
pub sum_one : (f : ℕ → ℕ) (n k : ℕ) → k < n → ((i : ℕ) → i < n → i ≢ k → f i ≡ 0) → sum f n ≡ f k
sum_one f zero k l h = absurd (omega arith)
sum_one f (suc n) k l h =
    ⊎_elim (λ (e : suc k ≡ suc n).
    let z : sum f n ≡ 0 = sum_zero f n (λ i u. h i (omega arith) (λ q. omega arith)) in
    let same : k ≡ n = omega arith in
    omega (arith, sum_more f n, ap f same))
    (λ (u : suc k < suc n). omega (arith, sum_more f n, sum_one f n k (omega arith) (λ i v. h i (omega arith)), h n (omega arith) (λ q. omega arith)))
    (eq-or-lt_of_le l)

-- ---- two sums
pub sum_both : (f g : ℕ → ℕ) (n : ℕ) → sum (λ i. f i + g i) n ≡ sum f n + sum g n
sum_both f g zero = omega (arith, sum_none f, sum_none g, sum_none (λ i. f i + g i))
sum_both f g (suc n) = omega (arith, sum_more f n, sum_more g n, sum_more (λ i. f i + g i) n, sum_both f g n)

-- one within the other
pub sum_swap : (f : ℕ → ℕ → ℕ) (n m : ℕ) → sum (λ i. sum (f i) m) n ≡ sum (λ j. sum (λ i. f i j) n) m
sum_swap f zero m = sum_none (λ i. sum (f i) m) ∙ sym (sum_zero (λ j. sum (λ i. f i j) 0) m (λ j l. sum_none (λ i. f i j)))
sum_swap f (suc n) m =
    sum_more (λ i. sum (f i) m) n
    ∙ ap (λ (x : ℕ). x + sum (f n) m) (sum_swap f n m)
    ∙ sym (sum_both (λ j. sum (λ i. f i j) n) (f n) m)
    ∙ sum_same (λ j. sum (λ i. f i j) n + f n j) (λ j. sum (λ i. f i j) (suc n)) m (λ j l. sym (sum_more (λ i. f i j) n))

-- one after the other
sum_join : (f : ℕ → ℕ) (a b : ℕ) → sum f a + sum (λ i. f (a + i)) b ≡ sum f (a + b)
sum_join f a zero = let e : a + 0 ≡ a = omega arith in rw e (omega (arith, sum_none (λ i. f (a + i))))
sum_join f a (suc b) = let e : a + suc b ≡ suc (a + b) = omega arith in rw e (omega (arith, sum_more (λ i. f (a + i)) b, sum_more f (a + b), sum_join f a b))

-- a sum in parts, the i-th of which begins at e i and ends before e (i + 1)
pub sum_parts : (f e : ℕ → ℕ) → e 0 ≡ 0 → ((i : ℕ) → e i ≤ e (suc i)) → (n : ℕ) → sum (λ i. sum (λ m. f (e i + m)) (e (suc i) - e i)) n ≡ sum f (e n)
sum_parts f e z up zero = sum_none (λ i. sum (λ m. f (e i + m)) (e (suc i) - e i)) ∙ sym (ap (sum f) z ∙ sum_none f)
sum_parts f e z up (suc n) =
    let d : e n + (e (suc n) - e n) ≡ e (suc n) = omega (arith, up n) in
    sum_more (λ i. sum (λ m. f (e i + m)) (e (suc i) - e i)) n
    ∙ ap (λ (x : ℕ). x + sum (λ m. f (e n + m)) (e (suc n) - e n)) (sum_parts f e z up n)
    ∙ sum_join f (e n) (e (suc n) - e n)
    ∙ ap (sum f) d
