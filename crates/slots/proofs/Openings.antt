-- Where windows open, as the code meets it.
-- Assumes nothing.
use mathlib.Core.Path.{◌≡◌}
use mathlib.Core.List.{List}
use Prim.Native.Nat.{ℕ, ◌+◌, ◌*◌, ◌/◌, ◌≤◌, ◌<◌, min}
use native.Mathlib.Omega.{arith}
use native.Mathlib.Nat.{mul-le-mul_left, mul-one}
use borrow.Author.Count.{below_more}
use lib.ListN.{length}
use Rattle.table.specs.declared.Row.{Row}
use Rattle.table.specs.declared.Table.{Table}
use Rattle.table.specs.Rows.{used, row_at}
use Rattle.table.specs.Windows.{window_end}
use Rattle.table.proofs.Good.{Good}
use Rattle.table.proofs.Windows.{in_window}
use Rattle.reserve.specs.Tables.{ends}
use Rattle.reserve.specs.Turns.{Ready}
use Rattle.reserve.proofs.Tables.{ends_within}
use Rattle.reserve.proofs.Ready.{good, cycle_fits}

-- ---- the end of a window fits into 16 bits
pub end_fits : (r : Row) (s : ℕ) → window_end r s < 65536 → (s / r.period + 1) * r.period < 65536
unfolding window_end
end_fits r s l = l

pub end_room : (r : Row) (s : ℕ) → 0 < r.period → window_end r s < 65536 → s / r.period + 1 < 65536
end_room r s p l =
    let m : (s / r.period + 1) * 1 ≤ (s / r.period + 1) * r.period = mul-le-mul_left (s / r.period + 1) p in
    omega (arith, m, mul-one (s / r.period + 1), end_fits r s l)

-- ---- the rows of a table that 1 to 6 accept: each has a period, and its windows end in the cycle
module _ {t : Table} {cycle : ℕ} (r : Ready t cycle) {rs : List Row} (e : rs ≡ used t) {i : ℕ} (row : i < length rs) where
  is_row : i < length (used t)
  is_row = rw e at row

  row_good : Good (row_at rs i)
  row_good = rw e (good r i is_row)

  pub row_period : 0 < (row_at rs i).period
  row_period = row_good.period

  module _ (s : ℕ) (l : s < cycle) where
    pub end_in_cycle : window_end (row_at rs i) s ≤ cycle
    unfolding ends
    end_in_cycle = rw e (omega (arith, r.is_cycle, ends_within (used t) (good r) i s is_row (omega (arith, r.is_cycle, l))))

    pub end_after : s < window_end (row_at rs i) s
    end_after = in_window (row_at rs i) row_good s

    pub end_small : window_end (row_at rs i) s < 65536
    end_small = omega (arith, end_in_cycle, cycle_fits r)

-- ---- the earliest of the first i rows
pub record Opening (t : Table) (cycle s : ℕ) (rs : List Row) (opens i : ℕ) : Type 0 where
  pub ready : Ready t cycle
  pub is_rows : rs ≡ used t
  pub ticks : s < cycle
  pub later : s < opens
  pub upto : opens ≤ cycle
  pub none : (j : ℕ) → j < i → opens ≤ window_end (row_at rs j) s

module _ {t : Table} {cycle s opens i : ℕ} {rs : List Row} (g : Opening t cycle s rs opens i) where
  pub opening_period : i < length rs → 0 < (row_at rs i).period
  opening_period row = row_period g.ready g.is_rows row

  pub opening_small : i < length rs → window_end (row_at rs i) s < 65536
  opening_small row = end_small g.ready g.is_rows row s g.ticks

  pub opening_step : i < length rs → (end next : ℕ) → end ≡ window_end (row_at rs i) s → next ≡ min opens end → Opening t cycle s rs next (i + 1)
  opening_step row end next e m = record {
    ready = g.ready;
    is_rows = g.is_rows;
    ticks = g.ticks;
    later = omega (arith, g.later, m, e, end_after g.ready g.is_rows row s g.ticks);
    upto = omega (arith, g.upto, m);
    none = below_more (λ j. next ≤ window_end (row_at rs j) s) i (λ j u. omega (arith, g.none j u, m)) (omega (arith, m, e));
  }
