-- The bag report over bags of the same size, and its answer as numbers, for one that reads it from outside.
-- Assumes nothing: these are definitions.
use Rattle.std.specs.Prelude.{ℕ, zero, suc, ◌+◌, ◌*◌, min, cond, List, [], ◌∷◌, ◌++◌, map, ltb, length, get_or}
use Rattle.refusal.specs.Numbers.{number_told}
use Rattle.share.specs.declared.Share.{Share}
use Rattle.bagreport.specs.declared.BagReport.{BagReport}
use Rattle.bagreport.specs.Answers.{report_of, marks_after}
use Rattle.bench.specs.Lists.{table_in}

-- the spans of n bags of so many slots each, one after the other from slot 0
unfoldable pub even_spans : (size n : ℕ) → List ℕ
even_spans size zero = []
even_spans size (suc n) = even_spans size n ++ n * size ∷ suc n * size ∷ []

-- as many bags as there are lent bytes, at most 1,024
unfoldable pub asked_spans : (size : ℕ) (old : List ℕ) → List ℕ
asked_spans size old = even_spans size (min (length old) 1024)

-- the report over the table of a file, with lent bytes that held `old`, and what they hold after it
unfoldable pub even_report : (file reps : List ℕ) (row size : ℕ) (old : List ℕ) → BagReport
even_report file reps row size old = report_of (table_in file) reps row (asked_spans size old) old

unfoldable pub even_marks : (file reps : List ℕ) (row size : ℕ) (old : List ℕ) → List ℕ
even_marks file reps row size old = marks_after (table_in file) reps row (asked_spans size old) old

-- a share's two counts: no other two have the same number, as both are less than 2^32
unfoldable pub counts_number : Share → ℕ
counts_number s = s.done * 4294967296 + s.of

-- place i's counts, and past the sixteen places the refusal's number, 0 where nothing is refused
unfoldable pub bag_figure : BagReport → ℕ → ℕ
bag_figure got i = cond (ltb i 16) (get_or (map counts_number got.shares) i 0) (number_told got.refusal)
