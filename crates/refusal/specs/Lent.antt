-- What stands in lent memory after a call.
-- Assumes nothing: these are definitions.
use Rattle.std.specs.Prelude.{cond, List, ◌++◌, ℕ, length, drop, Option}
use Rattle.refusal.specs.declared.Refusal.{Refusal}
use Rattle.refusal.specs.Order.{accepted}

-- 'Bytes past these uses stay as they were.' 'Refusals write nothing to lent memory'
unfoldable pub overlaid : Option Refusal → List ℕ → List ℕ → List ℕ
overlaid f new old = cond (accepted f) (new ++ drop (length new) old) old
