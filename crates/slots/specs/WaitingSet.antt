-- The rows waiting at the clock as one set of 16 bits.
-- Assumes nothing: these are definitions.
use Rattle.std.specs.Prelude.{ℕ, zero, suc, ◌+◌, ◌*◌, Bool, List, length, Result}
use Rattle.refusal.specs.declared.Refusal.{Refusal}
use Rattle.refusal.specs.Order.{answer}
use Rattle.table.specs.declared.Row.{Row}
use Rattle.table.specs.declared.Table.{Table}
use Rattle.table.specs.Rows.{used}
use Rattle.rule.specs.Slots.{unit, count}
use Rattle.slots.specs.declared.Job.{Job}
use Rattle.slots.specs.declared.Record.{Record}
use Rattle.slots.specs.declared.Awaiting.{Awaiting}
use Rattle.slots.specs.Sound.{record_refusal}
use Rattle.slots.specs.OneSlot.{waits, lowest_waiting}

-- the set of those of n rows, from row i on, at which P holds, row i in the lowest place
unfoldable pub set_from : (ℕ → Bool) → ℕ → ℕ → ℕ
set_from P i zero = 0
set_from P i (suc n) = unit (P i) + 2 * set_from P (suc i) n

-- 'The rows waiting at the clock are one 16-bit set, row 1 in the lowest place.'
unfoldable pub waiting_set : List Row → List Job → ℕ
waiting_set rs js = set_from (waits js) 0 (length rs)

-- 'the number waiting is the count of its members'
unfoldable pub waiting_count : List Row → List Job → ℕ
waiting_count rs js = count (waits js) 0 (length rs)

-- 1 to 7, then 9; 'The row taken is the set's lowest member', 'An empty set takes no row, answered as 0.'
unfoldable pub awaiting_of : Table → Record → Result Awaiting Refusal
awaiting_of t q =
    answer (record_refusal t q)
    (record { set = waiting_set (used t) q.jobs; row = lowest_waiting (used t) q.jobs; count = waiting_count (used t) q.jobs })
