-- What is known of a table that 1 to 6 accept, as the code reads it: its n first places are the rows of the rule.
-- Assumes nothing.
use mathlib.Core.Path.{◌≡◌, sym, ap, ◌∙◌}
use mathlib.Core.List.{List}
use Prim.Native.Nat.{ℕ, ◌≤◌, ◌<◌}
use native.Mathlib.Omega.{arith}
use lib.ListN.{length, get_or}
use lib.Seq.{get_or-take}
use Rattle.table.specs.declared.Row.{Row}
use Rattle.table.specs.declared.Table.{Table}
use Rattle.table.specs.Rows.{used, blank, row_at}
use Rattle.table.proofs.Good.{Good}
use Rattle.table.proofs.Check.{accepted_rows, used_count}
use Rattle.reserve.specs.Turns.{Ready}
use Rattle.reserve.proofs.Tables.{AllGood}

module _ {t : Table} {cycle : ℕ} (r : Ready t cycle) where
  pub few : t.n ≤ 16
  few = (accepted_rows t r.rows).few

  pub good : AllGood (used t)
  good = (accepted_rows t r.rows).good

  pub cycle_fits : cycle ≤ 4096
  cycle_fits = omega (arith, r.is_cycle, (accepted_rows t r.rows).cycle)

  -- the table's slice of rows, as a loop goes over it
  module _ {rs : List Row} (q : rs ≡ used t) where
    pub row_period : (i : ℕ) → i < length rs → 0 < (row_at rs i).period
    row_period i l = let g : AllGood rs = rw q good in (g i l).period

    pub rows_long : length t.rows ≡ 16 → length rs ≡ t.n
    rows_long e = ap length q ∙ used_count t e few

  module _ (e : length t.rows ≡ 16) where
    pub size : length (used t) ≡ t.n
    size = used_count t e few

    pub row_is : (i : ℕ) → i < t.n → get_or t.rows i blank ≡ row_at (used t) i
    unfolding used
    row_is i l = sym (get_or-take t.n t.rows i blank l)

    pub row_good : (i : ℕ) → i < t.n → Good (get_or t.rows i blank)
    row_good i l = rw (row_is i l) (good i (omega (arith, size)))

    pub period_some : (i : ℕ) → i < t.n → 0 < (get_or t.rows i blank).period
    period_some i l = (row_good i l).period
