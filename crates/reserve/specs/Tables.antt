-- The windows and the claims of a table, as the reservation rule reads them. Rows are counted from 0.
-- Assumes nothing: these are definitions.
use Rattle.std.specs.Prelude.{ℕ, List, get_or}
use Rattle.table.specs.declared.Row.{Row}
use Rattle.table.specs.Rows.{row_at}
use Rattle.table.specs.Windows.{window_end, wants}
use Rattle.rule.specs.Rule.{claimed}

-- the end, not included, of row i's window that slot s is in
unfoldable pub ends : List Row → ℕ → ℕ → ℕ
ends rs i s = window_end (row_at rs i) s

-- what that window's job claims in the table's fresh record: all of a
unfoldable pub whole : List Row → ℕ → ℕ → ℕ
whole rs i s = wants (row_at rs i) s

-- the claims of a record with the clock c: 'each current job claiming its units left and each later job of the cycle claiming a'; `left` has what is left of the rows' current
-- jobs, in order
unfoldable pub claims : List Row → ℕ → List ℕ → ℕ → ℕ → ℕ
claims rs c left i s = claimed (ends rs) (whole rs) c (λ k. get_or left k 0) i s
