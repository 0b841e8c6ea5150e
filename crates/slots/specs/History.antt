-- What a log and a list of reports tell: works and reports by slots, slot 0 being the first that the log tells of. Rows are counted from 0.
-- Assumes nothing: these are definitions.
use Rattle.std.specs.Prelude.{ℕ, zero, suc, ◌-◌, Bool, false, cond, List, ltb, eqb, get_or}
use Rattle.rule.specs.Slots.{within}
use Rattle.slots.specs.OneSlot.{Work, idle, primary, alternate}

-- the work that a log's byte stands for: '0 idle, k for a primary unit of row k, 16+k for an alternate unit'
unfoldable pub work_of : ℕ → Work
work_of zero = idle
work_of (suc b) = cond (ltb b 16) (primary b) (alternate (b - 16))

-- what ran in slot t; past the log nothing
abbrev pub logged : List ℕ → ℕ → Work
logged log t = work_of (get_or log t 0)

-- what was reported of slot t
abbrev pub reported : List ℕ → ℕ → ℕ
reported reps t = get_or reps t 0

unfoldable pub is_primary : ℕ → Work → Bool
is_primary k idle = false
is_primary k (primary i) = eqb i k
is_primary k (alternate i) = false

unfoldable pub is_alternate : ℕ → Work → Bool
is_alternate k idle = false
is_alternate k (primary i) = false
is_alternate k (alternate i) = eqb i k

-- how many units of row k's primary, and of its alternate, ran in the slots t with s ≤ t < e
unfoldable pub primaries : ℕ → (ℕ → Work) → ℕ → ℕ → ℕ
primaries k works s e = within (λ t. is_primary k (works t)) s e

unfoldable pub alternates : ℕ → (ℕ → Work) → ℕ → ℕ → ℕ
alternates k works s e = within (λ t. is_alternate k (works t)) s e
