-- What document 01 says of each case of the enum of refusals: its number, and the row that it names.
-- Assumes nothing: these are definitions.
use Rattle.std.specs.Prelude.{ℕ, Option, Some, None}
use Rattle.refusal.specs.declared.Refusal.{Refusal}
use Rattle.refusal.specs.declared.Refusal.TheVariants.{Empty, Many, Zero, Long, Order, Cycle, Tight, Room, Record, Report, Stray, Size, Version, Dosing, Spans}

-- 'Numbers of refusal'
abbrev pub number_of : Refusal → ℕ
number_of Empty = 1
number_of Many = 2
number_of (Zero k) = 3
number_of (Long k) = 4
number_of (Order k) = 5
number_of Cycle = 6
number_of (Tight k) = 7
number_of Room = 8
number_of Record = 9
number_of Report = 10
number_of Stray = 11
number_of Size = 12
number_of Version = 13
-- request 2's: 'for a dosing row outside the table', and for bag spans that can't be taken
number_of Dosing = 14
number_of Spans = 15

-- 'The answer names a row for 3, 4, 5 and 7, and row 0 otherwise.'
abbrev pub row_of : Refusal → ℕ
row_of Empty = 0
row_of Many = 0
row_of (Zero k) = k
row_of (Long k) = k
row_of (Order k) = k
row_of Cycle = 0
row_of (Tight k) = k
row_of Room = 0
row_of Record = 0
row_of Report = 0
row_of Stray = 0
row_of Size = 0
row_of Version = 0
row_of Dosing = 0
row_of Spans = 0

-- of an answer that may be refused: 0 where nothing is refused
abbrev pub number_told : Option Refusal → ℕ
number_told None = 0
number_told (Some f) = number_of f

abbrev pub row_told : Option Refusal → ℕ
row_told None = 0
row_told (Some f) = row_of f
