-- The windows and claims of a table whose rows are good are windows and claims as the rule asks, and end with the cycle.
-- Assumes nothing.
use mathlib.Core.Path.{◌≡◌}
use mathlib.Core.Logic.{⊎_elim}
use mathlib.Core.Bool.{◌||◌}
use mathlib.Core.List.{List}
use Prim.Native.Nat.{ℕ, zero, suc, ◌-◌, ◌≤◌, ◌<◌}
use native.Mathlib.Omega.{arith}
use lib.Dec.{eqb}
use lib.ListN.{length, get_or}
use borrow.Author.Tests.{eqb-true, eq-eqb}
use Rattle.table.specs.declared.Row.{Row}
use Rattle.table.specs.Rows.{row_at, cycle_of}
use Rattle.table.specs.Windows.{starts}
use Rattle.table.proofs.Good.{Good}
use Rattle.table.proofs.Windows.{in_window, same_end, same_wants, end_within, end_start, start_end}
use Rattle.table.proofs.Cycle.{cycle_multiple}
use Rattle.rule.specs.Rule.{begins, Windows, Claims}
use Rattle.rule.proofs.Tests.{both_ways, or_cases, or_left, or_right}
use Rattle.rule.proofs.Claims.{claimed_claims}
use Rattle.rule.proofs.Lacks.{begins_first, begins_next, begins_cases}
use Rattle.reserve.specs.Tables.{ends, whole, claims}

-- each row is good
abbrev pub AllGood : List Row → Type 0
AllGood rs = (i : ℕ) → i < length rs → Good (row_at rs i)

module _ (rs : List Row) (good : AllGood rs) where
  pub windows_of : Windows (ends rs) (length rs)
  unfolding ends
  windows_of = record { inside = λ i s l. in_window (row_at rs i) (good i l) s; flat = λ i s t l u v. same_end (row_at rs i) (good i l) s t u v }

  pub claims_of_lem : Claims (ends rs) (whole rs) (length rs)
  unfolding ends whole
  claims_of_lem i s t l u v = same_wants (row_at rs i) (good i l) s t u v

  pub claims_left : (c : ℕ) (left : List ℕ) → Claims (ends rs) (claims rs c left) (length rs)
  unfolding claims
  claims_left c left = claimed_claims windows_of claims_of_lem c (λ k. get_or left k 0)

  pub ends_within : (i s : ℕ) → i < length rs → s < cycle_of rs → ends rs i s ≤ cycle_of rs
  unfolding ends
  ends_within i s l u = end_within (row_at rs i) (good i l) (cycle_of rs) s (cycle_multiple rs i l) u

  pub ends_last : (i s : ℕ) → i < length rs → suc s ≡ cycle_of rs → ends rs i s ≡ suc s
  ends_last i s l e = omega (arith, windows_of.inside i s l, ends_within i s l (omega arith))

  -- from slot c on, a window begins at c, or where it starts
  pub begins_is : (K : ℕ → ℕ → ℕ) (c i s : ℕ) → i < length rs → c ≤ s → begins (ends rs) K c i s ≡ (eqb s c || starts (row_at rs i) s)
  unfolding ends
  begins_is K c i zero l u = let e : c ≡ 0 = omega arith in rw e (begins_first (ends rs) K 0 i)
  begins_is K c i (suc s) l u =
      let r = row_at rs i in
      let one : suc s - 1 ≡ s = omega arith in
      both_ways (begins (ends rs) K c i (suc s)) (eqb (suc s) c || starts r (suc s))
      (λ h.
      ⊎_elim (λ e. or_left (eqb (suc s) c) (starts r (suc s)) (eq-eqb (suc s) c e))
      (λ e. or_right (eqb (suc s) c) (starts r (suc s)) (end_start r (good i l) s (rw one at e)))
      (begins_cases (ends rs) K c i (suc s) h))
      (λ h.
      ⊎_elim (λ e. rw (eqb-true (suc s) c e) (begins_first (ends rs) K c i)) (λ e. begins_next (ends rs) K c i s (start_end r (good i l) s e))
      (or_cases (eqb (suc s) c) (starts r (suc s)) h))
