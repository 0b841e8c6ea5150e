-- One division of two counts in binary64: both counts are held exactly, so that the quotient is rounded once, and it is a number.
-- Assumes nothing.
use mathlib.Core.Path.{◌≡◌, sym, ap, ◌∙◌, subst}
use mathlib.Core.Bool.{Bool, true, false, not, cond, true≢false}
use Prim.Native.Nat.{ℕ, zero, suc, ◌+◌, ◌-◌, ◌*◌, ◌/◌, ◌%◌, ◌<◌, ◌^◌, compare}
use native.Mathlib.Nat.{mul_comm, mul_assoc, mul-one, zero-mul, mul-pos, lt_irrefl}
use native.Mathlib.Omega.{arith}
use borrow.Author.Tests.{eq-eqb, ne_eqb}
use lib.IntN.{pos}
use lib.Dec.{T, eqb, ltb}
use lib.Ieee.{Float, nan, inf, fin, Format, binary64, up, down, div, of_int, of_bits, to_bits, round, units, odd, is_nan, low, emax, prec, size, nearest}
use lib.Ieee.Fits.{down_pos, round_is}
use lib.Ieee.Exact.{HasValue}
use lib.Ieee.Back.{round_whole}
use lib.Ieee.Scale.{round_same}
use Rattle.share.specs.declared.Share.{Share}
use Rattle.share.specs.Share.{share_number, share_bits, share_of}

-- ---- a division of floats that hold two counts is the rounded quotient of the counts
-- the two quotients are one number, told by crossed products, so they are rounded alike
crossed : (M N E D a b : ℕ) → M * 1 ≡ a * E → N * 1 ≡ b * D → M * D * b ≡ a * (N * E)
crossed M N E D a b h k =
    let h' : M ≡ a * E = sym (mul-one M) ∙ h in
    let k' : N ≡ b * D = sym (mul-one N) ∙ k in
    ap (λ (z : ℕ). z * D * b) h' ∙ mul_assoc (a * E) D b ∙ mul_assoc a E (D * b) ∙ ap (λ (z : ℕ). a * z) (mul_comm E (D * b) ∙ ap (λ (z : ℕ). z * E) (mul_comm D b ∙ sym k'))

divisor_pos : (N D b : ℕ) → N * 1 ≡ b * D → 0 < b → 0 < D → 0 < N
divisor_pos N D b k p q = subst (λ (z : ℕ). 0 < z) (sym k ∙ mul-one N) (mul-pos p q)

factor_not_zero : (n u : ℕ) → 0 < n * u → n ≡ 0 → ⊥
factor_not_zero n u p e = lt_irrefl 0 (subst (λ (z : ℕ). 0 < z) (ap (λ (z : ℕ). z * u) e ∙ zero-mul u) p)

div_at : (f : Format) (x y : Float) (a b : ℕ) → 0 < b → HasValue x false a 1 → HasValue y false b 1 → div f x y ≡ round f false a b
unfolding div
div_at f nan y a b p h k = absurd h
div_at f (inf s) y a b p h k = absurd h
div_at f (fin true m e) y a b p h k = absurd (true≢false h.0)
div_at f (fin false m e) nan a b p h k = absurd k
div_at f (fin false m e) (inf t) a b p h k = absurd k
div_at f (fin false m e) (fin true n d) a b p h k = absurd (true≢false k.0)
div_at f (fin false m e) (fin false n d) a b p h k =
    let q : 0 < n * up d = divisor_pos (n * up d) (down d) b k.1 p (down_pos d) in
    ap (λ (z : Bool). cond z (cond (eqb m 0) nan (inf false)) (round f false (m * up e * down d) (n * up d * down e))) (ne_eqb n 0 (factor_not_zero n (up d) q))
    ∙ round_same f false (m * up e * down d) (n * up d * down e) a b (mul-pos q (down_pos e)) p (crossed (m * up e) (n * up d) (down e) (down d) a b h.1 k.1)

-- 'carried over exactly': a count fits in 32 bits, and binary64 has 53
count_exact : (n : ℕ) → n < 2 ^ 32 → HasValue (of_int binary64 (pos n)) false n 1
unfolding of_int
count_exact n l = round_whole binary64 false n (omega arith)

-- 'and divided once'
pub quotient_is : (a b : ℕ) → a < 2 ^ 32 → b < 2 ^ 32 → 0 < b → div binary64 (of_int binary64 (pos a)) (of_int binary64 (pos b)) ≡ round binary64 false a b
quotient_is a b la lb p = div_at binary64 _ _ a b p (count_exact a la) (count_exact b lb)

-- ---- what is rounded is a number: a caller may ask for its bits
odd_number : (d : ℕ) (s : Bool) (q k l : ℕ) → T (not (is_nan (odd d s q k l)))
unfolding odd is_nan
odd_number d s zero k l = tt
odd_number d s (suc q) k l = tt

or_infinite : (t : Bool) (x : Float) (s : Bool) → T (not (is_nan x)) → T (not (is_nan (cond t x (inf s))))
unfolding is_nan
or_infinite true x s h = h
or_infinite false x s h = tt

units_number : (f : Format) (s : Bool) (q k : ℕ) → T (not (is_nan (units f s q k)))
unfolding units
units_number f s q k = or_infinite (ltb (q * 2 ^ k) (2 ^ (low f + suc (emax f)))) (odd (suc (prec f)) s q k (low f)) s (odd_number (suc (prec f)) s q k (low f))

round_number : (f : Format) (s : Bool) (a b : ℕ) → T (not (is_nan (round f s a b)))
round_number f s a b =
    let n = a * 2 ^ low f in
    let k = size (n / b) - prec f in
    let u = b * 2 ^ k in
    subst (λ (x : Float). T (not (is_nan x))) (sym (round_is f s a b)) (units_number f s (nearest (n / u) (compare (n % u * 2) u)) k)

pub share_number_lem : (done of : ℕ) → T (not (is_nan (share_number done of)))
unfolding share_number
share_number_lem done of = go (eqb of 0)
  where
    go : (b : Bool) → T (not (is_nan (cond b (round binary64 false 0 1) (round binary64 false done of))))
    go true = round_number binary64 false 0 1
    go false = round_number binary64 false done of

-- as a caller of `divide` has it before `f64::to_bits`
pub answer_number : (done of : ℕ) (r : Share) → r ≡ share_of done of → T (not (is_nan r.share))
unfolding share_of
answer_number done of r e = subst (λ (x : Share). T (not (is_nan x.share))) (sym e) (share_number_lem done of)

-- ---- the two arms of `divide`, part by part
module _ (done of : ℕ) where
  -- the code's 0.0, which the check reads by its bits, is 0 / 1 rounded
  pub number_none : of ≡ 0 → of_bits binary64 0 ≡ share_number done of
  unfolding share_number round of_bits
  number_none e = rw (eq-eqb of 0 e)

  pub number_some : done < 2 ^ 32 → of < 2 ^ 32 → (of ≡ 0 → ⊥) → div binary64 (of_int binary64 (pos done)) (of_int binary64 (pos of)) ≡ share_number done of
  unfolding share_number
  number_some ld lo n = rw (ne_eqb of 0 n, quotient_is done of ld lo (omega (arith, n)))

  pub mark_none : of ≡ 0 → ◌≡◌ {A = ℕ} 16 (cond (eqb of 0) 16 0)
  mark_none e = rw (eq-eqb of 0 e)

  pub mark_some : (of ≡ 0 → ⊥) → ◌≡◌ {A = ℕ} 0 (cond (eqb of 0) 16 0)
  mark_some n = rw (ne_eqb of 0 n)

  -- whatever mark and number are given: a wrong one then shows as a premise that is left
  pub share_made :
      (mark : ℕ) (x : Float) → mark ≡ cond (eqb of 0) 16 0 → x ≡ share_number done of → ◌≡◌ {A = Share} (record { mark = mark; done = done; of = of; share = x }) (share_of done of)
  unfolding share_of
  share_made mark x m e = simp (m, e)

  pub bits_made : (x : Float) → x ≡ share_number done of → to_bits binary64 x ≡ share_bits done of
  unfolding share_bits
  bits_made x e = ap (to_bits binary64) e
