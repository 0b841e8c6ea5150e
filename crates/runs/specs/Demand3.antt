-- The words of demand 3, over what ran and what was reported. Slots are absolute: slot t is the t-th since the fresh start, past cycle ends too. Rows are counted from 0, a
-- row's jobs from 1.
-- Assumes nothing: these are definitions.
use Rattle.std.specs.Prelude.{◌≡◌, ◌≢◌, ◌⊎◌, List, ℕ, ◌≤◌, ◌<◌, length}
use Rattle.table.specs.declared.Row.{Row}
use Rattle.table.specs.Rows.{row_at}
use Rattle.table.specs.Windows.{opens, closes}
use Rattle.slots.specs.OneSlot.{Work, primary, alternate}
use Rattle.slots.specs.History.{primaries, alternates}

-- in a slot t with s ≤ t < e row k's primary ran and was reported done
abbrev pub Finished : ℕ → (ℕ → Work) → (ℕ → ℕ) → ℕ → ℕ → Type 0
Finished k works reports s e = (t : ℕ) × (s ≤ t) × (t < e) × (works t ≡ primary k) × (reports t ≡ 1)

-- one job: of row k, with the primary time p, the alternate time a and the window from s up to, not including, e, after N slots
pub record Served (k p a s e N : ℕ) (works : ℕ → Work) (reports : ℕ → ℕ) : Type 0 where
  -- 'Each job whose deadline has come had either its primary reported done inside its own window, or its full alternate time inside that window.'
  pub settled : e ≤ N → Finished k works reports s e ⊎ (alternates k works s e ≡ a)
  -- 'No job gets more primary or alternate units than its row allows': up to any slot t of its window
  pub few_primaries : (t : ℕ) → t ≤ e → t ≤ N → primaries k works s t ≤ p
  pub few_alternates : (t : ℕ) → t ≤ e → t ≤ N → alternates k works s t ≤ a
  -- 'no alternate unit after its primary is done', nor a primary one
  pub after_done : (t u : ℕ) → s ≤ t → t < u → u < e → u < N → works t ≡ primary k → reports t ≡ 1 → (works u ≢ alternate k) × (works u ≢ primary k)
  -- 'and no primary unit after its alternate began'
  pub after_alternate : (t u : ℕ) → s ≤ t → t < u → u < e → u < N → works t ≡ alternate k → works u ≢ primary k

-- each job of each row. 'Other jobs' failures change none of this': nothing is asked of the reports, neither of this job's nor of any other's
unfoldable pub AllServed : List Row → ℕ → (ℕ → Work) → (ℕ → ℕ) → Type 0
AllServed rs N works reports =
    (k : ℕ) → k < length rs → (j : ℕ) → 1 ≤ j
    → Served k (row_at rs k).primary (row_at rs k).alternate (opens (row_at rs k) j) (closes (row_at rs k) j) N works reports
