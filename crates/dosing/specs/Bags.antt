-- Bags: spans of slots 'as a list of start, end, start, end in slots from the start, end not included', and how each was dosed. Rows are counted from 0.
-- Assumes nothing: these are definitions.
use Rattle.std.specs.Prelude.{ℕ, zero, suc, List, [], ◌∷◌}
use Rattle.table.specs.declared.Row.{Row}
use Rattle.slots.specs.OneSlot.{Work}
use Rattle.dosing.specs.Jobs.{by_primary, by_alternate, jobs_due}

-- by how many of the jobs it looks at were dosed by primary, and how many by alternate
unfoldable pub mark_of : (primaries alternates : ℕ) → ℕ
-- "no job 'none' (0)"
mark_of zero zero = 0
-- "all by primary is 'modelled' (1)"
mark_of (suc p) zero = 1
-- "all by alternate 'fixed' (2)"
mark_of zero (suc a) = 2
-- "both kinds 'mixed' (3)"
mark_of (suc p) (suc a) = 3

module _ (rs : List Row) (works : ℕ → Work) (reports : ℕ → ℕ) (k : ℕ) where
  -- 'A bag looks at the row's jobs whose deadline is after its start and no later than its end'
  unfoldable pub bag_mark : (start end : ℕ) → ℕ
  bag_mark start end = mark_of (jobs_due rs works reports by_primary k start end) (jobs_due rs works reports by_alternate k start end)

  -- 'one lent byte for each whole pair'
  unfoldable pub bag_marks : List ℕ → List ℕ
  bag_marks [] = []
  bag_marks (start ∷ []) = []
  bag_marks (start ∷ end ∷ spans) = bag_mark start end ∷ bag_marks spans
