-- The jobs of a row and their windows.
-- Assumes nothing: these are definitions.
use Rattle.std.specs.Prelude.{ℕ, ◌+◌, ◌-◌, ◌*◌, ◌/◌, ◌%◌, Bool, eqb}
use Rattle.table.specs.declared.Row.{Row}

-- 'Job j of a row, j from 1, has the window from (j-1) times the period'
unfoldable pub opens : Row → ℕ → ℕ
opens r j = (j - 1) * r.period

-- 'up to, not including, j times the period'
unfoldable pub closes : Row → ℕ → ℕ
closes r j = j * r.period

-- a window starts at slot s
unfoldable pub starts : Row → ℕ → Bool
starts r s = eqb (s % r.period) 0

-- the end of the window that slot s is in
unfoldable pub window_end : Row → ℕ → ℕ
window_end r s = (s / r.period + 1) * r.period

-- what a fresh job reserves in the window that slot s is in
unfoldable pub wants : Row → ℕ → ℕ
wants r s = r.alternate
