-- When each refusal of the bag report is given, in the words of document 02's request 2 and in document 01's order: 'The first that applies is given, and a later one only if no
-- earlier one applies.' The chain of tests that the code meets is not in it.
-- Assumes nothing: these are definitions.
use Rattle.std.specs.Prelude.{Option, Some, None, ◌≡◌, ◌⊎◌, List, ℕ, suc, ◌%◌, ◌≤◌, ◌<◌, length}
use Rattle.refusal.specs.declared.Refusal.{Refusal}
use Rattle.refusal.specs.declared.Refusal.TheVariants.{Room, Dosing, Spans}
use Rattle.table.specs.declared.Table.{Table}
use Rattle.table.specs.Rows.{used}
use Rattle.reserve.specs.Exactly.{TableGives}
use Rattle.slots.specs.Records.{fresh_record}
use Rattle.slots.specs.Exactly.{Then, ListStops}
use Rattle.bagreport.specs.Pairs.{bags, start_at, end_at}

-- g is given where P, and nothing is refused where not P
abbrev pub Where : Type 0 → Refusal → Option Refusal → Type 0
Where P g f = (P × (f ≡ Some g)) ⊎ ((P → ⊥) × (f ≡ None))

-- 8: 'one lent byte for each whole pair'; the lent bytes held `old`
abbrev pub FewBytes : (spans old : List ℕ) → Type 0
FewBytes spans old = length old < bags spans

-- 14: 'a dosing row outside the table'. Rows are counted from 1 in the call
abbrev pub OutsideTable : Table → ℕ → Type 0
OutsideTable t row = (row ≡ 0) ⊎ (t.n < row)

-- 15, with as many slots run as there are reports
pub data BadSpans (slots : ℕ) (spans : List ℕ) : Type 0 where
  -- 'the list is odd'
  odd : length spans % 2 ≡ 1 → BadSpans slots spans
  -- 'a span doesn't end after its start'
  backward : (c : ℕ) → c < bags spans → end_at spans c ≤ start_at spans c → BadSpans slots spans
  -- 'ends past the slots run'
  beyond : (c : ℕ) → c < bags spans → slots < end_at spans c → BadSpans slots spans
  -- 'or starts before the previous end'
  overlaps : (c : ℕ) → suc c < bags spans → start_at spans (suc c) < end_at spans c → BadSpans slots spans
  -- 'or when there are more than 4,294,967,295 reports'
  many : 4294967295 < slots → BadSpans slots spans

-- 1 to 7, 8, then, slot by slot from the fresh record, 10 before 11; 'after 01's for the run' 14, then 15
unfoldable pub BagGives : Table → (reps : List ℕ) (row : ℕ) (spans old : List ℕ) → Option Refusal → Type 0
BagGives t reps row spans old =
    Then (TableGives t)
    (Then (Where (FewBytes spans old) Room)
    (Then (λ f. (n : ℕ) × ListStops (used t) (fresh_record t) reps f n)
    (Then (Where (OutsideTable t row) Dosing) (Where (BadSpans (length reps) spans) Spans))))
