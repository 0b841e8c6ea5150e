-- The terms of demand 2's part on files: 'The table file reads back to the rows it was written from, and each accepted file is what the writer gives for its rows.'
-- Assumes nothing: these are definitions.
use Rattle.std.specs.Prelude.{◌≡◌, List, ℕ, ◌<◌, length}
use Rattle.table.specs.declared.Table.{Table}
use Rattle.table.specs.Rows.{used}
use Rattle.tablefile.specs.Layout.{byte_at, padded}

-- what the type [Row; 16] says of each table
abbrev pub Places : Table → Type 0
Places t = length t.rows ≡ 16

-- what the type [u8] says of each file
abbrev pub Bytes : List ℕ → Type 0
Bytes s = (k : ℕ) → byte_at s k < 256

-- the rows of a table, with zeros past them
unfoldable pub zeroed : Table → Table
zeroed t = record { n = t.n; rows = padded t.n (used t) }
