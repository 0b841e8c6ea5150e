-- The job whose window a slot is in, and deadlines. Of this crate's proofs only these know quotients and remainders; of a row they ask at most that its period is not 0.
-- Assumes nothing.
use mathlib.Core.Path.{◌≡◌, sym, ap, ◌∙◌}
use mathlib.Core.Logic.{⊎_elim}
use mathlib.Core.Bool.{true, false}
use Prim.Native.Nat.{ℕ, suc, ◌+◌, ◌-◌, ◌*◌, ◌/◌, ◌%◌, ◌≤◌, ◌<◌}
use native.Mathlib.Nat.{le_trans, lt-div-mul-add, div-mul-le_self, div-eq_of_lt-le, div-lt_iff_lt-mul, mul-le-mul_right, le_of_mul-le-mul_right, le-mul_of_pos_right, mul-div_cancel, div-add-mod', mul-mod_left}
use native.Mathlib.Omega.{arith}
use borrow.Author.Tests.{eqb-true, eq-eqb}
use Rattle.table.specs.declared.Row.{Row}
use Rattle.table.specs.Windows.{opens, closes, starts, window_end}
use Rattle.table.proofs.Windows.{end_is}
use Rattle.rule.proofs.Tests.{side, never}
use Rattle.dosing.specs.Turns.{job_in, start_of}

start_is : (r : Row) (t : ℕ) → start_of r t ≡ t / r.period * r.period
unfolding opens
start_is r t = let e : suc (t / r.period) - 1 ≡ t / r.period = omega arith in rw e

-- the window of a slot's job is the slot's
pub start_end : (r : Row) (t : ℕ) → closes r (job_in r t) ≡ window_end r t
unfolding closes window_end
start_end r t = omega arith

pub start_le : (r : Row) (t : ℕ) → start_of r t ≤ t
start_le r t = omega (arith, start_is r t, div-mul-le_self t r.period)

starts_rest : (r : Row) (t : ℕ) → starts r t ≡ true → t % r.period ≡ 0
unfolding starts
starts_rest r t h = eqb-true (t % r.period) 0 h

-- at a slot where a window starts it is that slot's
pub starts_is : (r : Row) (t : ℕ) → starts r t ≡ true → start_of r t ≡ t
starts_is r t h = omega (arith, start_is r t, div-add-mod' t r.period, starts_rest r t h)

-- past the rows the period is 0, and so is every deadline
pub closes_zero : (r : Row) → r.period ≡ 0 → (j : ℕ) → closes r j ≡ 0
unfolding closes
closes_zero r z j = rw z (omega arith)

module _ (r : Row) (long : 0 < r.period) where
  abbrev T : ℕ
  T = r.period

  pub slot_inside : (t : ℕ) → t < window_end r t
  slot_inside t = rw (end_is r t) (lt-div-mul-add long)

  -- ---- the slots of one window, and of the next
  pub job_same : (a t : ℕ) → a ≤ t → t < window_end r a → job_in r t ≡ job_in r a
  job_same a t l u =
      let same : t / T ≡ a / T = div-eq_of_lt-le T (le_trans (div-mul-le_self a T) l) (omega (arith, end_is r a)) in
      ap suc same

  pub start_same : (a t : ℕ) → a ≤ t → t < window_end r a → start_of r t ≡ start_of r a
  start_same a t l u = ap (opens r) (job_same a t l u)

  pub end_same : (a t : ℕ) → a ≤ t → t < window_end r a → window_end r t ≡ window_end r a
  end_same a t l u = sym (start_end r t) ∙ ap (closes r) (job_same a t l u) ∙ start_end r a

  pub job_next : (a : ℕ) → job_in r (window_end r a) ≡ suc (job_in r a)
  unfolding window_end
  job_next a = let e : (a / T + 1) * T / T ≡ a / T + 1 = mul-div_cancel (a / T + 1) long in omega arith

  ends_start : (a : ℕ) → starts r (window_end r a) ≡ true
  unfolding starts window_end
  ends_start a = eq-eqb ((a / T + 1) * T % T) 0 (mul-mod_left (a / T + 1) T)

  pub start_next : (a : ℕ) → start_of r (window_end r a) ≡ window_end r a
  start_next a = starts_is r (window_end r a) (ends_start a)

  -- ---- the next slot where a window starts is this one's end
  starts_past : (a t : ℕ) → a < t → starts r t ≡ true → window_end r a ≤ t
  starts_past a t l h =
      let e : t / T * T ≡ t = omega (arith, div-add-mod' t T, starts_rest r t h) in
      let q : a / T < t / T = (div-lt_iff_lt-mul long).1 (rw e l) in
      let m : (a / T + 1) * T ≤ t / T * T = mul-le-mul_right T (omega arith) in
      omega (arith, end_is r a)

  pub starts_end : (a t : ℕ) → a < t → t ≤ window_end r a → starts r t ≡ true → t ≡ window_end r a
  starts_end a t l u h = omega (arith, starts_past a t l h)

  pub starts_inside : (a t : ℕ) → a < t → t ≤ window_end r a → starts r t ≡ false → t < window_end r a
  starts_inside a t l u h =
      ⊎_elim (λ (q : t < window_end r a). q)
      (λ (q : window_end r a ≤ t).
      let e : window_end r a ≡ t = omega arith in
      never (ap (starts r) (sym e) ∙ ends_start a) h)
      (side t (window_end r a))

  -- ---- deadlines
  -- each window has a slot of its own, so a job's deadline is no earlier than its number
  pub job_closes : (j : ℕ) → j ≤ closes r j
  unfolding closes
  job_closes j = le-mul_of_pos_right j long

  -- the only deadline after a slot and no later than its window's end is that of its job
  pub job_due : (a j : ℕ) → a < closes r j → closes r j ≤ window_end r a → j ≡ job_in r a
  unfolding closes window_end
  job_due a j l u =
      let few : j ≤ a / T + 1 = le_of_mul-le-mul_right u long in
      let many : a / T < j = (div-lt_iff_lt-mul long).1 l in
      omega arith
