-- Euclid's rule gives the greatest common divisor, and `lcm_of` the least common multiple.
-- Assumes nothing.
use mathlib.Core.Path.{◌≡◌, refl, sym, ap, ◌∙◌}
use Prim.Native.Nat.{ℕ, zero, suc, ◌+◌, ◌*◌, ◌/◌, ◌%◌, ◌<◌, ◌∣◌}
use native.Mathlib.Nat.{dvd_refl, dvd-zero, dvd-mul_left, dvd-mul_right, dvd-mul_left_of_dvd, dvd-mod_iff, dvd-add_iff_right, mul-dvd-mul_right, dvd_of_mul-dvd-mul_right, pos_of_dvd_of_pos, div-mul_cancel, mul-div_cancel', mul-pos, mul_assoc, mul_comm, mul-add, div-add-mod', mod-lt}
use native.Mathlib.Omega.{arith}
use Rattle.table.specs.Gcd.{gcd_in, gcd_of, lcm_of}

gcd_in_divides : (n x y : ℕ) → y < n → (gcd_in n x y ∣ x) × (gcd_in n x y ∣ y)
unfolding gcd_in
gcd_in_divides zero x y h = absurd (omega arith)
gcd_in_divides (suc n) x zero h = (dvd_refl x, dvd-zero x)
gcd_in_divides (suc n) x (suc y) h =
    let m : x % suc y < suc y = mod-lt x (omega arith) in
    let d = gcd_in_divides n (suc y) (x % suc y) (omega arith) in
    ((dvd-mod_iff _ d.0).0 d.1, d.0)

-- any bound above y gives the same
gcd_in_bound : (n m x y : ℕ) → y < n → y < m → gcd_in n x y ≡ gcd_in m x y
unfolding gcd_in
gcd_in_bound zero m x y h k = absurd (omega arith)
gcd_in_bound (suc n) zero x y h k = absurd (omega arith)
gcd_in_bound (suc n) (suc m) x zero h k = refl
gcd_in_bound (suc n) (suc m) x (suc y) h k =
    let l : x % suc y < suc y = mod-lt x (omega arith) in
    gcd_in_bound n m (suc y) (x % suc y) (omega arith) (omega arith)

-- what divides m times each divides m times their greatest common divisor: at 1 it is the greatest, and the least common multiple needs any m
gcd_in_times : (n x y d m : ℕ) → d ∣ m * x → d ∣ m * y → d ∣ m * gcd_in n x y
unfolding gcd_in
gcd_in_times zero x y d m h k = h
gcd_in_times (suc n) x zero d m h k = h
gcd_in_times (suc n) x (suc y) d m h k =
    gcd_in_times n (suc y) (x % suc y) d m k ((dvd-add_iff_right d whole).1 (rw parts at h))
  where
    parts : m * x ≡ m * (x / suc y * suc y) + m * (x % suc y)
    parts = ap (λ (z : ℕ). m * z) (sym (div-add-mod' x (suc y))) ∙ mul-add m (x / suc y * suc y) (x % suc y)

    whole : d ∣ m * (x / suc y * suc y)
    whole =
        let e : m * (x / suc y * suc y) ≡ x / suc y * (m * suc y) = omega arith in
        rw e (dvd-mul_left_of_dvd d k (x / suc y))

-- ---- Euclid's rule as the code has it
pub gcd_none : (x : ℕ) → gcd_of x 0 ≡ x
unfolding gcd_of gcd_in
gcd_none x = refl

pub gcd_step : (x y : ℕ) → 0 < y → gcd_of x y ≡ gcd_of y (x % y)
unfolding gcd_of gcd_in
gcd_step x zero h = absurd (omega arith)
gcd_step x (suc y) h =
    let l : x % suc y < suc y = mod-lt x (omega arith) in
    gcd_in_bound (suc y) (suc (x % suc y)) (suc y) (x % suc y) l (omega arith)

module _ (x y : ℕ) where
  -- ---- the greatest common divisor
  pub gcd_left : gcd_of x y ∣ x
  unfolding gcd_of
  gcd_left = (gcd_in_divides (suc y) x y (omega arith)).0

  pub gcd_right : gcd_of x y ∣ y
  unfolding gcd_of
  gcd_right = (gcd_in_divides (suc y) x y (omega arith)).1

  gcd_times : (d m : ℕ) → d ∣ m * x → d ∣ m * y → d ∣ m * gcd_of x y
  unfolding gcd_of
  gcd_times = gcd_in_times (suc y) x y

  pub gcd_greatest : (d : ℕ) → d ∣ x → d ∣ y → d ∣ gcd_of x y
  gcd_greatest d h k =
      let e : (z : ℕ) → 1 * z ≡ z = λ z. omega arith in
      rw e at (gcd_times d 1 (rw e h) (rw e k))

  -- ---- the least common multiple
  pub lcm_left : x ∣ lcm_of x y
  unfolding lcm_of
  lcm_left =
      let g : ℕ = gcd_of x y in
      let e : x / g * y ≡ x * (y / g) =
      ap (λ (z : ℕ). x / g * z) (sym (mul-div_cancel' g gcd_right))
      ∙ sym (mul_assoc (x / g) g (y / g))
      ∙ ap (λ (z : ℕ). z * (y / g)) (div-mul_cancel g gcd_left) in
      rw e (dvd-mul_right x (y / gcd_of x y))

  pub lcm_right : y ∣ lcm_of x y
  unfolding lcm_of
  lcm_right = dvd-mul_left y (x / gcd_of x y)

  pub lcm_least : (m : ℕ) → 0 < x → x ∣ m → y ∣ m → lcm_of x y ∣ m
  unfolding lcm_of
  lcm_least m pos h k =
      dvd_of_mul-dvd-mul_right
      (x / gcd_of x y * y)
      (pos_of_dvd_of_pos gcd_left pos)
      (rw scaled (gcd_times (x * y) m (rw (mul_comm x y) (mul-dvd-mul_right y k x)) (mul-dvd-mul_right x h y)))
    where
      scaled : x / gcd_of x y * y * gcd_of x y ≡ x * y
      scaled =
          let e : x / gcd_of x y * y * gcd_of x y ≡ x / gcd_of x y * gcd_of x y * y = omega arith in
          e ∙ ap (λ (z : ℕ). z * y) (div-mul_cancel (gcd_of x y) gcd_left)

  pub lcm_pos : 0 < x → 0 < y → 0 < lcm_of x y
  unfolding lcm_of
  lcm_pos a b =
      let g : ℕ = gcd_of x y in
      let d : x / g ∣ x = rw (div-mul_cancel g gcd_left) at (dvd-mul_right (x / g) g) in
      mul-pos (pos_of_dvd_of_pos d a) b
