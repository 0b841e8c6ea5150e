-- How far the end of a row's window is, as the code meets it.
-- Assumes nothing.
use mathlib.Core.Path.{◌≡◌}
use Prim.Native.Nat.{ℕ, ◌+◌, ◌-◌, ◌%◌, ◌<◌}
use native.Mathlib.Nat.{mod-lt, div-add-mod'}
use native.Mathlib.Omega.{arith}
use Rattle.table.specs.declared.Row.{Row}
use Rattle.table.specs.Windows.{window_end}
use Rattle.table.proofs.Windows.{end_is}

module _ (r : Row) (s : ℕ) (some : 0 < r.period) where
  rest_less : s % r.period < r.period
  rest_less = mod-lt s some

  pub end_far : s + (r.period - s % r.period) ≡ window_end r s
  end_far = omega (arith, rest_less, end_is r s, div-add-mod' s r.period)

  pub end_ahead : 0 < r.period - s % r.period
  end_ahead = omega (arith, rest_less)
