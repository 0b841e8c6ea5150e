-- What the reservation rule says from a clock on: 'with the clock as the first usable slot, each current job claiming its units left and each later job of the cycle claiming a'.
-- Assumes nothing: these are definitions.
use Rattle.std.specs.Prelude.{cond, List, ℕ, ltb, length, Result}
use Rattle.refusal.specs.Order.{answer}
use Rattle.refusal.specs.declared.Refusal.{Refusal}
use Rattle.table.specs.declared.Row.{Row}
use Rattle.table.specs.declared.Table.{Table}
use Rattle.table.specs.Rows.{used, cycle_of}
use Rattle.table.specs.Check.{rows_refusal}
use Rattle.rule.specs.Rule.{holder, tight_row}
use Rattle.reserve.specs.declared.Standing.{Standing}
use Rattle.reserve.specs.Tables.{ends, claims}

-- the first row with a job that is short, from the clock c on, counted from 1; 0 where no job is
abbrev pub short_from : List Row → ℕ → List ℕ → ℕ
short_from rs c left = tight_row (ends rs) (claims rs c left) c (cycle_of rs) (length rs)

-- the row that holds the clock's slot, counted from 1; 0 where none does. Past the cycle no slot is held
abbrev pub holder_from : List Row → ℕ → List ℕ → ℕ
holder_from rs c left = cond (ltb c (cycle_of rs)) (holder (ends rs) (claims rs c left) (length rs) c) 0

-- the answer: the figures, or the refusal. Of the refusals 1 to 6 only: whether a table is tight, 7, is asked of its fresh record
unfoldable pub from_clock : Table → ℕ → List ℕ → Result Standing Refusal
from_clock t c left =
    answer (rows_refusal t) (record { cycle = cycle_of (used t); short = short_from (used t) c left; holder = holder_from (used t) c left })
