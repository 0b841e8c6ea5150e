-- The refusals of a table file in document 01's order, and the answer of a reading.
-- Assumes nothing: these are definitions.
use Rattle.std.specs.Prelude.{Option, Result, Ok, Err, ℕ, not, ◌||◌, List, ltb, eqb, length, replicate}
use Rattle.refusal.specs.declared.Refusal.{Refusal}
use Rattle.refusal.specs.declared.Refusal.TheVariants.{Empty, Many, Size, Version}
use Rattle.refusal.specs.Order.{given, or_else, answer}
use Rattle.table.specs.declared.Table.{Table}
use Rattle.table.specs.Rows.{blank}
use Rattle.reserve.specs.Check.{table_refusal}
use Rattle.tablefile.specs.Layout.{length_for, length_field, following, version_byte, count_byte, table_from}

-- 'Order for a file: 12 (under 4 bytes, or the length field differs from the bytes that follow), 13, 1, 2, 12 (length not 2+6n)'
unfoldable pub head_refusal : List ℕ → Option Refusal
head_refusal s =
    or_else (given (ltb (length s) 4 || not (eqb (length_field s) (following s))) Size)
    (or_else (given (not (eqb (version_byte s) 1)) Version)
    (or_else (given (eqb (count_byte s) 0) Empty)
    (or_else (given (ltb 16 (count_byte s)) Many) (given (not (eqb (length_field s) (length_for (count_byte s)))) Size))))

-- 'then rows from the first, in each row 3, 4, 5, then 6, then 7': those of the table read, whose 1 and 2 have been asked
unfoldable pub file_refusal : List ℕ → Option Refusal
file_refusal s = or_else (head_refusal s) (table_refusal (table_from s))

-- the answer of a reading: the table, or the refusal
unfoldable pub read_as : List ℕ → Result Table Refusal
read_as s = answer (file_refusal s) (table_from s)

-- 'a table of zeros with n 0'
abbrev pub zero_table : Table
zero_table = record { n = 0; rows = replicate 16 blank }

-- 'A refused reading hands back a table of zeros with n 0.' What a reading hands back where a table is needed either way
abbrev pub hands_back : Result Table Refusal → Table
hands_back (Ok t) = t
hands_back (Err f) = zero_table
