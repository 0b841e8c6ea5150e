-- When each refusal of a table file is given, in the words of document 01's 'Order for a file', and that no earlier one applies.
-- Assumes nothing: these are definitions.
use Rattle.std.specs.Prelude.{Option, Some, None, ◌≡◌, ◌⊎◌, ◌≢◌, List, ℕ, ◌≤◌, ◌<◌, length}
use Rattle.refusal.specs.declared.Refusal.{Refusal}
use Rattle.refusal.specs.declared.Refusal.TheVariants.{Empty, Many, Zero, Long, Order, Cycle, Tight, Room, Record, Report, Stray, Size, Version, Dosing, Spans}
use Rattle.reserve.specs.Exactly.{Counted, TableGives}
use Rattle.tablefile.specs.Layout.{length_for, length_field, following, version_byte, count_byte, table_from}

-- 12, the first time: 'under 4 bytes, or the length field differs from the bytes that follow'
abbrev pub Unmatched : List ℕ → Type 0
Unmatched s = (length s < 4) ⊎ (length_field s ≢ following s)

-- that does not apply
abbrev pub Matched : List ℕ → Type 0
Matched s = (4 ≤ length s) × (length_field s ≡ following s)

-- neither that nor 13 applies
abbrev pub Versioned : List ℕ → Type 0
Versioned s = Matched s × (version_byte s ≡ 1)

-- the length field says 2+6n
abbrev pub RightLength : List ℕ → Type 0
RightLength s = length_field s ≡ length_for (count_byte s)

-- neither of the two 12 nor 13 applies
abbrev pub Framed : List ℕ → Type 0
Framed s = Versioned s × RightLength s

-- the refusal is given exactly when
unfoldable pub FileGives : List ℕ → Option Refusal → Type 0
-- 12, the first time; the second time: 'length not 2+6n', after 13, 1 and 2
FileGives s (Some Size) = Unmatched s ⊎ (Versioned s × Counted (table_from s) × (RightLength s → ⊥))
-- 'the version byte isn't 1'
FileGives s (Some Version) = Matched s × (version_byte s ≢ 1)
-- 1 and 2 come before the second 12
FileGives s (Some Empty) = Versioned s × TableGives (table_from s) (Some Empty)
FileGives s (Some Many) = Versioned s × TableGives (table_from s) (Some Many)
-- 'then rows from the first, in each row 3, 4, 5, then 6, then 7'
FileGives s (Some (Zero k)) = Framed s × TableGives (table_from s) (Some (Zero k))
FileGives s (Some (Long k)) = Framed s × TableGives (table_from s) (Some (Long k))
FileGives s (Some (Order k)) = Framed s × TableGives (table_from s) (Some (Order k))
FileGives s (Some Cycle) = Framed s × TableGives (table_from s) (Some Cycle)
FileGives s (Some (Tight k)) = Framed s × TableGives (table_from s) (Some (Tight k))
FileGives s None = Framed s × TableGives (table_from s) None
-- the others are not about a file
FileGives s (Some Room) = ⊥
FileGives s (Some Record) = ⊥
FileGives s (Some Report) = ⊥
FileGives s (Some Stray) = ⊥
FileGives s (Some Dosing) = ⊥
FileGives s (Some Spans) = ⊥
