-- The list of spans, pair by pair: 'a list of start, end, start, end in slots from the start, end not included'. Bags are counted from 0.
-- Assumes nothing: these are definitions.
use Rattle.std.specs.Prelude.{Bool, true, false, ◌||◌, List, [], ◌∷◌, ℕ, ◌+◌, ◌*◌, ◌/◌, ltb, leb, length, get_or}

-- the 'whole pairs'
abbrev pub bags : List ℕ → ℕ
bags spans = length spans / 2

-- where bag c starts, and where it ends
abbrev pub start_at : List ℕ → ℕ → ℕ
start_at spans c = get_or spans (2 * c) 0

abbrev pub end_at : List ℕ → ℕ → ℕ
end_at spans c = get_or spans (2 * c + 1) 0

-- 'the list is odd, a span doesn't end after its start, ends past the slots run or starts before the previous end'
unfoldable pub spans_fault : (slots previous : ℕ) → List ℕ → Bool
spans_fault slots previous [] = false
spans_fault slots previous (start ∷ []) = true
spans_fault slots previous (start ∷ end ∷ spans) = leb end start || (ltb slots end || (ltb start previous || spans_fault slots end spans))
