-- The refusals of a table given as rows: 1 to 7.
-- Assumes nothing: these are definitions.
use Rattle.std.specs.Prelude.{ℕ, List, ltb, length, Option, Result}
use Rattle.refusal.specs.declared.Refusal.{Refusal}
use Rattle.refusal.specs.declared.Refusal.TheVariants.{Tight}
use Rattle.refusal.specs.Order.{given, or_else, answer}
use Rattle.table.specs.declared.Row.{Row}
use Rattle.table.specs.declared.Table.{Table}
use Rattle.table.specs.Rows.{used, cycle_of}
use Rattle.table.specs.Check.{rows_refusal}
use Rattle.rule.specs.Rule.{tight_row}
use Rattle.reserve.specs.Tables.{ends, whole}

-- 'If a window has fewer such slots, the table is tight at that row, and the first such row is named.' Counted from 1; 0 where no job is short
unfoldable pub tight_of : List Row → ℕ
tight_of rs = tight_row (ends rs) (whole rs) 0 (cycle_of rs) (length rs)

-- 1 to 6, then 7: 'the reservation rule leaves a job short'
unfoldable pub table_refusal : Table → Option Refusal
table_refusal t = or_else (rows_refusal t) (given (ltb 0 (tight_of (used t))) (Tight (tight_of (used t))))

-- the answer: the cycle, or the refusal
unfoldable pub table_check : Table → Result ℕ Refusal
table_check t = answer (table_refusal t) (cycle_of (used t))
