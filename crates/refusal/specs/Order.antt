-- Refusals one after another, and what stands beside one.
-- Assumes nothing: these are definitions.
use Rattle.std.specs.Prelude.{ℕ, Bool, cond, Option, Some, None, is_none, Result, Ok, Err}
use Rattle.refusal.specs.declared.Refusal.{Refusal}

-- nothing is refused
abbrev pub accepted : Option Refusal → Bool
accepted f = is_none f

-- the refusal f is given exactly when the test holds
abbrev pub given : Bool → Refusal → Option Refusal
given test f = cond test (Some f) None

-- 'The first that applies is given, and a later one only if no earlier one applies.'
unfoldable pub or_else : Option Refusal → Option Refusal → Option Refusal
or_else f later = cond (accepted f) later f

-- what an entry answers: the figure, or the refusal in its place
abbrev pub answer : {A : Type 0} → Option Refusal → A → Result A Refusal
answer None figure = Ok figure
answer (Some f) figure = Err f

-- the answer of a check that has no figure
abbrev pub verdict : Option Refusal → Result Unit Refusal
verdict f = answer f tt

-- 'Beside a refusal, every figure not named here is 0'
unfoldable pub beside : Option Refusal → ℕ → ℕ
beside f figure = cond (accepted f) figure 0
