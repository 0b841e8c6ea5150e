-- The windows of one row. All that is said of periods, quotients and remainders is here.
-- Assumes nothing.
use mathlib.Core.Path.{◌≡◌, refl, sym, ap, ◌∙◌}
use mathlib.Core.Bool.{true, false}
use Prim.Native.Nat.{ℕ, zero, suc, ◌+◌, ◌-◌, ◌*◌, ◌/◌, ◌%◌, ◌≤◌, ◌<◌, ◌∣◌}
use native.Mathlib.Nat.{le_trans, lt-div-mul-add, div-mul-le_self, div-eq_of_lt-le, div-lt_iff_lt-mul, le-div_iff_mul-le, mul-le-mul_right, mul-div_cancel, div-add-mod', div-mul_cancel, dvd_of_mod-eq-zero, mul-mod_left, zero-mod, mod-eq_of_lt, suc-mod, mod-mod_of_dvd, mul-add-mod_self_right}
use native.Mathlib.Omega.{arith}
use borrow.Author.Tests.{eqb-true, eq-eqb, ne_eqb}
use Rattle.table.specs.declared.Row.{Row}
use Rattle.table.specs.Windows.{opens, closes, starts, window_end, wants}
use Rattle.table.proofs.Good.{Good}

pub end_is : (r : Row) (s : ℕ) → window_end r s ≡ s / r.period * r.period + r.period
unfolding window_end
end_is r s = omega arith

starts_at : (r : Row) (s : ℕ) → s % r.period ≡ 0 → starts r s ≡ true
unfolding starts
starts_at r s e = eq-eqb (s % r.period) 0 e

starts_rest : (r : Row) (s : ℕ) → starts r s ≡ true → s % r.period ≡ 0
unfolding starts
starts_rest r s e = eqb-true (s % r.period) 0 e

module _ (r : Row) (good : Good r) where
  abbrev T : ℕ
  T = r.period

  -- ---- each slot's window
  pub in_window : (s : ℕ) → s < window_end r s
  in_window s = rw (end_is r s) (lt-div-mul-add good.period)

  pub same_end : (s t : ℕ) → s ≤ t → t < window_end r s → window_end r t ≡ window_end r s
  same_end s t l u = cc (end_is r s, end_is r t, same)
    where
      same : t / T ≡ s / T
      same = div-eq_of_lt-le T (le_trans (div-mul-le_self s T) l) (omega (arith, end_is r s))

  pub same_wants : (s t : ℕ) → s ≤ t → t < window_end r s → wants r t ≡ wants r s
  unfolding wants
  same_wants s t l u = refl

  pub start_wants : (s : ℕ) → starts r s ≡ true → wants r s ≡ r.alternate
  unfolding wants
  start_wants s e = refl

  pub end_within : (L s : ℕ) → T ∣ L → s < L → window_end r s ≤ L
  unfolding window_end
  end_within L s d l =
      let e : L / T * T ≡ L = div-mul_cancel T d in
      let h : s / T < L / T = (div-lt_iff_lt-mul good.period).1 (rw e l) in
      let m : (s / T + 1) * T ≤ L / T * T = mul-le-mul_right T (omega arith) in
      omega arith

  -- the next window, as long as each
  pub end_next : (s : ℕ) → window_end r (window_end r s) ≡ window_end r s + T
  unfolding window_end
  end_next s = rw (mul-div_cancel (s / T + 1) good.period) (omega arith)

  -- ---- where windows start
  pub start_zero : starts r 0 ≡ true
  start_zero = starts_at r 0 (zero-mod T)

  pub end_start : (s : ℕ) → window_end r s ≡ suc s → starts r (suc s) ≡ true
  unfolding window_end
  end_start s e = starts_at r (suc s) (ap (λ (n : ℕ). n % T) (sym e) ∙ mul-mod_left (s / T + 1) T)

  pub start_end : (s : ℕ) → starts r (suc s) ≡ true → window_end r s ≡ suc s
  start_end s h =
      let d : T ∣ suc s = dvd_of_mod-eq-zero T (starts_rest r (suc s) h) in
      omega (arith, in_window s, end_within (suc s) s d (omega arith))

  -- ---- the window of job j. Jobs are counted from 1, and L is a multiple of the period: laws that need neither ask it too, so that those of other windows can stand in for them
  pub end_opens : (j : ℕ) → 1 ≤ j → window_end r (opens r j) ≡ closes r j
  unfolding opens closes window_end
  end_opens j l = let e : j - 1 + 1 ≡ j = omega arith in rw (mul-div_cancel (j - 1) good.period, e)

  -- the windows follow each other, from slot 0 on
  pub closes_none : closes r 0 ≡ 0
  unfolding closes
  closes_none = omega arith

  pub opens_after : (j : ℕ) → opens r (suc j) ≡ closes r j
  unfolding opens closes
  opens_after j = let e : suc j - 1 ≡ j = omega arith in rw e

  -- so none opens before the one before it closes
  pub closes_next : (j : ℕ) → closes r j ≤ opens r (suc j)
  closes_next j = omega (arith, opens_after j)

  pub opens_first : (j : ℕ) → 1 ≤ j → opens r j < closes r j
  opens_first j l = rw (end_opens j l) at (in_window (opens r j))

  pub starts_opens : (j : ℕ) → 1 ≤ j → starts r (opens r j) ≡ true
  unfolding opens
  starts_opens j l = starts_at r ((j - 1) * T) (mul-mod_left (j - 1) T)

  pub start_opens : (s : ℕ) → starts r s ≡ true → s ≡ opens r (suc (s / T))
  unfolding opens
  start_opens s h =
      let e : suc (s / T) - 1 ≡ s / T = omega arith in
      rw e (omega (arith, div-add-mod' s T, starts_rest r s h))

  -- ---- how many windows a multiple of the period holds
  pub closes_count : (L j : ℕ) → T ∣ L → j ≤ L / T → closes r j ≤ L
  unfolding closes
  closes_count L j d l = (le-div_iff_mul-le good.period).0 l

  pub count_closes : (L j : ℕ) → T ∣ L → closes r j ≤ L → j ≤ L / T
  unfolding closes
  count_closes L j d l = (le-div_iff_mul-le good.period).1 l

  pub opens_within : (L j : ℕ) → T ∣ L → 1 ≤ j → opens r j < L → closes r j ≤ L
  opens_within L j d l u = rw (end_opens j l) at (end_within L (opens r j) d u)

  -- ---- the window of job j, the clock being the time modulo a common multiple L of the periods
  module _ (L : ℕ) (d : T ∣ L) where
    pub starts_open : (j : ℕ) → 1 ≤ j → starts r (opens r j % L) ≡ true
    unfolding opens
    starts_open j l = starts_at r ((j - 1) * T % L) (mod-mod_of_dvd T ((j - 1) * T) d ∙ mul-mod_left (j - 1) T)

    pub starts_not : (j t : ℕ) → 1 ≤ j → opens r j < t → t < closes r j → starts r (t % L) ≡ false
    unfolding opens closes starts
    starts_not zero t l u v = absurd (omega arith)
    starts_not (suc i) t l u v =
        let e : suc i - 1 ≡ i = omega arith in
        let u' : i * T < t = rw e at u in
        let q : i * T + (t - i * T) ≡ t = omega arith in
        let m : (i * T + (t - i * T)) % T ≡ t - i * T = mul-add-mod_self_right i T (t - i * T) ∙ mod-eq_of_lt (omega arith) in
        ne_eqb (t % L % T) 0 (λ z. omega (arith, mod-mod_of_dvd T t d, rw q at m))

    pub ends_close : (j t : ℕ) → 1 ≤ j → suc t ≡ closes r j → window_end r (t % L) ≡ suc (t % L)
    unfolding closes
    ends_close j t l e =
        start_end
        (t % L)
        (starts_at
        r
        (suc (t % L))
        (suc-mod (t % L) T
        ∙ ap (λ (m : ℕ). suc m % T) (mod-mod_of_dvd T t d)
        ∙ sym (suc-mod t T)
        ∙ ap (λ (n : ℕ). n % T) e
        ∙ mul-mod_left j T))
