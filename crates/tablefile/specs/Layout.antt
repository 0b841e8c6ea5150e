-- The table file, byte by byte: what stands in it, and what is read from it.
-- Assumes nothing: these are definitions.
use Rattle.std.specs.Prelude.{ℕ, zero, suc, ◌+◌, ◌-◌, ◌*◌, ◌/◌, ◌%◌, List, [], ◌∷◌, ◌++◌, length, get_or, replicate}
use Rattle.table.specs.declared.Row.{Row}
use Rattle.table.specs.declared.Table.{Table}
use Rattle.table.specs.Rows.{used, blank}

-- 'The length must be 2+6n', of a file of n rows
abbrev pub length_for : ℕ → ℕ
length_for n = 2 + 6 * n

-- ---- what stands in a file
-- 'Big-endian': the high byte first
unfoldable pub word_bytes : ℕ → List ℕ
word_bytes w = w / 256 ∷ w % 256 ∷ []

-- 'period, p, a, two bytes each'
unfoldable pub row_bytes : Row → List ℕ
row_bytes r = word_bytes r.period ++ word_bytes r.primary ++ word_bytes r.alternate

unfoldable pub rows_bytes : List Row → List ℕ
rows_bytes [] = []
rows_bytes (r ∷ rs) = row_bytes r ++ rows_bytes rs

-- 'Two bytes: the number of bytes that follow them. One version byte, 1. One byte: the number of rows n. Then n rows'
unfoldable pub file_bytes : Table → List ℕ
file_bytes t = word_bytes (length_for t.n) ++ (1 ∷ t.n ∷ rows_bytes (used t))

-- ---- what is read from bytes
-- the byte at a place, 0 past the end
abbrev pub byte_at : List ℕ → ℕ → ℕ
byte_at s at = get_or s at 0

-- the word at a place, 'Big-endian'
unfoldable pub word_at : List ℕ → ℕ → ℕ
word_at s at = byte_at s at * 256 + byte_at s (at + 1)

-- 'Two bytes: the number of bytes that follow them.'
abbrev pub length_field : List ℕ → ℕ
length_field s = word_at s 0

-- how many bytes there are after those two
abbrev pub following : List ℕ → ℕ
following s = length s - 2

-- 'One version byte'
abbrev pub version_byte : List ℕ → ℕ
version_byte s = byte_at s 2

-- 'One byte: the number of rows n.'
abbrev pub count_byte : List ℕ → ℕ
count_byte s = byte_at s 3

-- the row at a place, 'period, p, a, two bytes each'
unfoldable pub row_from : List ℕ → ℕ → Row
row_from s at = record { period = word_at s at; primary = word_at s (at + 2); alternate = word_at s (at + 4) }

-- n rows from a place on
unfoldable pub rows_from : List ℕ → ℕ → ℕ → List Row
rows_from s at zero = []
rows_from s at (suc n) = row_from s at ∷ rows_from s (at + 6) n

-- 'Places past the n rows read are all zero'
abbrev pub padded : ℕ → List Row → List Row
padded n rs = rs ++ replicate (16 - n) blank

-- the table that a file holds, its rows from place 4 on
unfoldable pub table_from : List ℕ → Table
table_from s = record { n = count_byte s; rows = padded (count_byte s) (rows_from s 4 (count_byte s)) }
