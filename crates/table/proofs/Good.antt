-- What the refusals leave of a row, and back: a row with that much is not refused.
-- Assumes nothing.
use mathlib.Core.Path.{◌≡◌}
use mathlib.Core.Bool.{false}
use mathlib.Mathlib.Data.Bool.Basic.{or-eq-false-eq-eq-false-and-eq-false as neither}
use Prim.Native.Nat.{ℕ, ◌≤◌, ◌<◌}
use native.Mathlib.Nat.{pos_of_ne-zero, ne_of_gt}
use borrow.Author.Tests.{eqb-false, ltb-false, ne_eqb, le-ltb}
use lib.Dec.{ltb}
use Rattle.refusal.specs.declared.Refusal.TheVariants.{Zero, Long, Order}
use Rattle.std.specs.Prelude.{None}
use Rattle.refusal.proofs.Order.{none_first, none_later, given_not}
use Rattle.table.specs.declared.Row.{Row}
use Rattle.table.specs.Check.{is_zero, is_long, fault_of}
use Rattle.table.proofs.FaultCases.{fault_none}

pub record Good (r : Row) : Type 0 where
  pub period : 0 < r.period
  pub primary : 0 < r.primary
  pub alternate : 0 < r.alternate
  pub primary_fits : r.primary ≤ r.period
  pub alternate_fits : r.alternate ≤ r.period

module _ (k before : ℕ) (r : Row) where
  pub fault_good : fault_of k before r ≡ None → Good r × (before ≤ r.period)
  unfolding fault_of
  fault_good e =
      let rest = none_later _ _ e in
      let zero : is_zero r ≡ false = given_not (is_zero r) (Zero k) (none_first _ _ e) in
      let long : is_long r ≡ false = given_not (is_long r) (Long k) (none_first _ _ rest) in
      let order = given_not (ltb r.period before) (Order k) (none_later _ _ rest) in
      let z = (neither _ _).0 zero in
      let y = (neither _ _).0 z.0 in
      let l = (neither _ _).0 long in (
        record {
          period = pos_of_ne-zero (eqb-false r.period 0 y.0);
          primary = pos_of_ne-zero (eqb-false r.primary 0 y.1);
          alternate = pos_of_ne-zero (eqb-false r.alternate 0 z.1);
          primary_fits = ltb-false r.period r.primary l.0;
          alternate_fits = ltb-false r.period r.alternate l.1;
        },
        ltb-false r.period before order,
      )

  pub good_fault : Good r → before ≤ r.period → fault_of k before r ≡ None
  good_fault g l =
      let zero : is_zero r ≡ false = simp (ne_eqb _ _ (ne_of_gt g.period), ne_eqb _ _ (ne_of_gt g.primary), ne_eqb _ _ (ne_of_gt g.alternate)) in
      let long : is_long r ≡ false = simp (le-ltb _ _ g.primary_fits, le-ltb _ _ g.alternate_fits) in
      fault_none k before r zero long l
