-- The figures of a report's lines.
-- Assumes nothing: these are definitions.
use Rattle.std.specs.Prelude.{cond, List, [], ◌∷◌, ℕ, ◌+◌, ◌*◌, ◌/◌, eqb}

-- how many bags have the mark
unfoldable pub of_kind : ℕ → List ℕ → ℕ
of_kind kind [] = 0
of_kind kind (mark ∷ marks) = cond (eqb mark kind) 1 0 + of_kind kind marks

-- a share 'cut to six places by whole numbers'
unfoldable pub millionths : (done of : ℕ) → ℕ
millionths done of = done * 1000000 / of
