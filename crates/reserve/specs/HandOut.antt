-- How a list that belongs to a table is handed out into lent memory. `new` is the list, `old` what the lent output held.
-- Assumes nothing: these are definitions.
use Rattle.std.specs.Prelude.{List, ℕ, ltb, length, Option, Result}
use Rattle.refusal.specs.declared.Refusal.{Refusal}
use Rattle.refusal.specs.declared.Refusal.TheVariants.{Room}
use Rattle.refusal.specs.Order.{given, or_else, answer}
use Rattle.refusal.specs.Lent.{overlaid}
use Rattle.table.specs.declared.Table.{Table}
use Rattle.reserve.specs.Check.{table_refusal}

-- 1 to 7, then 8: 'a lent output is shorter than its use'
unfoldable pub handed_refusal : Table → List ℕ → List ℕ → Option Refusal
handed_refusal t new old = or_else (table_refusal t) (given (ltb (length old) (length new)) Room)

-- the answer: how many places are written, or the refusal
unfoldable pub handed : Table → List ℕ → List ℕ → Result ℕ Refusal
handed t new old = answer (handed_refusal t new old) (length new)

-- the lent output after the call
unfoldable pub handed_over : Table → List ℕ → List ℕ → List ℕ
handed_over t new old = overlaid (handed_refusal t new old) new old
