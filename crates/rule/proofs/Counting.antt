-- Counting the slots at which a test holds, and the free ones.
-- Assumes nothing.
use mathlib.Core.Path.{◌≡◌, refl, sym, ap, ◌∙◌}
use mathlib.Core.Logic.{⊎_elim}
use mathlib.Core.Bool.{Bool, true, false, not}
use Prim.Native.Nat.{ℕ, zero, suc, ◌+◌, ◌-◌, ◌≤◌, ◌<◌}
use native.Mathlib.Nat.{le_trans, le_of_eq}
use native.Mathlib.Omega.{arith}
use Rattle.rule.specs.Slots.{unit, count, within}
use Rattle.rule.specs.Rule.{between}
use Rattle.rule.proofs.Tests.{side}

count_none : (P : ℕ → Bool) (s : ℕ) → count P s 0 ≡ 0
unfolding count
count_none P s = refl

count_step : (P : ℕ → Bool) (s n : ℕ) → count P s (suc n) ≡ unit (P s) + count P (suc s) n
unfolding count
count_step P s n = refl

-- the first slot and the rest
pub within_step : (P : ℕ → Bool) (a b : ℕ) → a < b → within P a b ≡ unit (P a) + within P (suc a) b
within_step P a b h =
    let e : b - a ≡ suc (b - suc a) = omega arith in
    ap (count P a) e ∙ count_step P a (b - suc a)

pub within_none : (P : ℕ → Bool) (a b : ℕ) → b ≤ a → within P a b ≡ 0
within_none P a b h =
    let e : b - a ≡ 0 = omega arith in
    ap (count P a) e ∙ count_none P a

-- where P holds, Q does
count_less : (P Q : ℕ → Bool) (s n : ℕ) → ((t : ℕ) → s ≤ t → t < s + n → P t ≡ true → Q t ≡ true) → count P s n ≤ count Q s n
count_less P Q s zero h = omega (arith, count_none P s)
count_less P Q s (suc n) h =
    let r : count P (suc s) n ≤ count Q (suc s) n = count_less P Q (suc s) n (λ t l u. h t (omega arith) (omega arith)) in
    omega (arith, count_step P s n, count_step Q s n, unit_less (P s) (Q s) (h s (omega arith) (omega arith)))
  where
    unit_less : (a b : Bool) → (a ≡ true → b ≡ true) → unit a ≤ unit b
    unit_less true b k = omega (arith, ap unit (k refl))
    unit_less false b k = omega arith

pub within_less : (P Q : ℕ → Bool) (a b : ℕ) → ((t : ℕ) → a ≤ t → t < b → P t ≡ true → Q t ≡ true) → within P a b ≤ within Q a b
within_less P Q a b h = count_less P Q a (b - a) (λ t l u. h t l (omega arith))

count_same : (P Q : ℕ → Bool) (s n : ℕ) → ((t : ℕ) → s ≤ t → t < s + n → P t ≡ Q t) → count P s n ≡ count Q s n
count_same P Q s zero h = cc (count_none P s, count_none Q s)
count_same P Q s (suc n) h =
    cc (count_step P s n, count_step Q s n, h s (omega arith) (omega arith), count_same P Q (suc s) n (λ t l u. h t (omega arith) (omega arith)))

pub within_same : (P Q : ℕ → Bool) (a b : ℕ) → ((t : ℕ) → a ≤ t → t < b → P t ≡ Q t) → within P a b ≡ within Q a b
within_same P Q a b h = count_same P Q a (b - a) (λ t l u. h t l (omega arith))

-- from a later slot on there are no more
pub within_later : (P : ℕ → Bool) (a c b : ℕ) → a ≤ c → within P c b ≤ within P a b
within_later P a c b h = go (c - a) a (omega arith)
  where
    once : (x : ℕ) → within P (suc x) b ≤ within P x b
    once x = ⊎_elim (λ (q : x < b). omega (arith, within_step P x b q)) (λ (q : b ≤ x). omega (arith, within_none P (suc x) b (omega arith))) (side x b)

    go : (n x : ℕ) → c ≡ x + n → within P c b ≤ within P x b
    go zero x e = let q : c ≡ x = omega arith in le_of_eq (ap (λ (y : ℕ). within P y b) q)
    go (suc n) x e = le_trans (go n (suc x) (omega arith)) (once x)

-- where P holds at none of the slots before c, it is counted from there
pub within_skip : (P : ℕ → Bool) (a c b : ℕ) → a ≤ c → c ≤ b → ((t : ℕ) → a ≤ t → t < c → P t ≡ false) → within P a b ≡ within P c b
within_skip P a c b h l none = go (c - a) a (omega arith) (omega arith)
  where
    go : (n x : ℕ) → a ≤ x → c ≡ x + n → within P x b ≡ within P c b
    go zero x m e = let q : x ≡ c = omega arith in ap (λ (y : ℕ). within P y b) q
    go (suc n) x m e = let q : within P (suc x) b ≡ within P c b = go n (suc x) (omega arith) (omega arith) in omega (arith, within_step P x b (omega arith), ap unit (none x m (omega arith)))

-- where P holds at c, there is one more before the slots after c
pub within_more : (P : ℕ → Bool) (a c b : ℕ) → a ≤ c → c < b → P c ≡ true → within P (suc c) b < within P a b
within_more P a c b h l f = omega (arith, ap unit f, within_step P c b l, within_later P a c b h)

-- there are no more than slots
pub within_all : (P : ℕ → Bool) (a b : ℕ) → within P a b ≤ b - a
within_all P a b = go a (b - a)
  where
    one : (x : Bool) → unit x ≤ 1
    one true = omega arith
    one false = omega arith

    go : (s n : ℕ) → count P s n ≤ n
    go s zero = omega (arith, count_none P s)
    go s (suc n) = omega (arith, count_step P s n, one (P s), go (suc s) n)

-- two stretches, one after the other
pub within_join : (P : ℕ → Bool) (a c b : ℕ) → a ≤ c → c ≤ b → within P a b ≡ within P a c + within P c b
within_join P a c b h l = go (c - a) a (omega arith)
  where
    go : (n x : ℕ) → c ≡ x + n → within P x b ≡ within P x c + within P c b
    go zero x e = let q : x ≡ c = omega arith in omega (arith, ap (λ (y : ℕ). within P y b) q, within_none P x c (omega arith))
    go (suc n) x e = omega (arith, within_step P x b (omega arith), within_step P x c (omega arith), go n (suc x) (omega arith))

-- the slots before the last, and the last
pub within_last : (P : ℕ → Bool) (a b : ℕ) → a ≤ b → within P a (suc b) ≡ within P a b + unit (P b)
within_last P a b h =
    omega (arith, within_join P a b (suc b) h (omega arith), within_step P b (suc b) (omega arith), within_none P (suc b) (suc b) (omega arith))

-- P holds where Q or R does, and those two hold at no slot together
pub within_parted : (P Q R : ℕ → Bool) (a b : ℕ) → ((t : ℕ) → a ≤ t → t < b → unit (P t) ≡ unit (Q t) + unit (R t)) → within P a b ≡ within Q a b + within R a b
within_parted P Q R a b h = go a (b - a) (λ t l u. h t l (omega arith))
  where
    go : (s n : ℕ) → ((t : ℕ) → s ≤ t → t < s + n → unit (P t) ≡ unit (Q t) + unit (R t)) → count P s n ≡ count Q s n + count R s n
    go s zero k = omega (arith, count_none P s, count_none Q s, count_none R s)
    go s (suc n) k =
        omega
        (arith, count_step P s n, count_step Q s n, count_step R s n, k s (omega arith) (omega arith), go (suc s) n (λ t l u. k t (omega arith) (omega arith)))

-- ---- free slots: 1 for a free one, 0 for a held one
abbrev pub gap : Bool → ℕ
gap b = unit (not b)

pub between_step : (H : ℕ → Bool) (a b : ℕ) → a < b → between H a b ≡ gap (H a) + between H (suc a) b
between_step H a b h = within_step (λ t. not (H t)) a b h

pub between_none : (H : ℕ → Bool) (a b : ℕ) → b ≤ a → between H a b ≡ 0
between_none H a b h = within_none (λ t. not (H t)) a b h

-- what is held in H' is held in H: H has no more free slots
pub between_anti : (H H' : ℕ → Bool) (a b : ℕ) → ((t : ℕ) → a ≤ t → t < b → H' t ≡ true → H t ≡ true) → between H a b ≤ between H' a b
between_anti H H' a b h = within_less (λ t. not (H t)) (λ t. not (H' t)) a b (λ t l u. turned (H t) (H' t) (h t l u))
  where
    turned : (x y : Bool) → (y ≡ true → x ≡ true) → not x ≡ true → not y ≡ true
    turned x true k e = ap not (sym (k refl)) ∙ e
    turned x false k e = refl

pub between_same : (H H' : ℕ → Bool) (a b : ℕ) → ((t : ℕ) → a ≤ t → t < b → H' t ≡ H t) → between H' a b ≡ between H a b
between_same H H' a b h = within_same (λ t. not (H' t)) (λ t. not (H t)) a b (λ t l u. ap not (h t l u))

pub between_more : (H : ℕ → Bool) (a c b : ℕ) → a ≤ c → c < b → H c ≡ false → between H (suc c) b < between H a b
between_more H a c b h l f = within_more (λ t. not (H t)) a c b h l (ap not f)
