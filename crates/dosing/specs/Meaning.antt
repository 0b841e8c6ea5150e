-- What the bag report says of a row's jobs, in the words of demand 3: over what ran and what was reported since a fresh start. Rows are counted from 0, a row's jobs from 1.
-- Assumes nothing: these are definitions.
use Rattle.std.specs.Prelude.{◌≡◌, ◌⊎◌, ◌↔◌, Bool, true, ◌&&◌, List, ℕ, suc, ◌≤◌, ◌<◌, leb}
use Rattle.table.specs.declared.Row.{Row}
use Rattle.table.specs.Rows.{row_at}
use Rattle.table.specs.Windows.{opens, closes}
use Rattle.rule.specs.Slots.{within}
use Rattle.slots.specs.OneSlot.{Work, primary}
use Rattle.slots.specs.History.{primaries, alternates}
use Rattle.runs.specs.Demand3.{Finished}

-- 'A bag looks at the row's jobs whose deadline is after its start and no later than its end'
pub record LooksAt (r : Row) (start end j : ℕ) : Type 0 where
  pub is_job : 1 ≤ j
  pub after : start < closes r j
  pub by : closes r j ≤ end

-- of some job that it looks at, and of each
abbrev pub Some : Row → (start end : ℕ) → (ℕ → Type 0) → Type 0
Some r start end P = (j : ℕ) × LooksAt r start end j × P j

abbrev pub Each : Row → (start end : ℕ) → (ℕ → Type 0) → Type 0
Each r start end P = (j : ℕ) → LooksAt r start end j → P j

-- ---- of the row's jobs whose deadline has come after N slots
-- m tells of which of them P is true
abbrev pub Tells : Row → ℕ → (ℕ → Bool) → (ℕ → Type 0) → Type 0
Tells r N m P = (j : ℕ) → 1 ≤ j → closes r j ≤ N → (m j ≡ true) ↔ P j

-- how many of them it tells. No job past the N-th is one: each window has a slot of its own
abbrev pub tally : Row → ℕ → (ℕ → Bool) → ℕ
tally r N m = within (λ j. leb (closes r j) N && m j) 1 (suc N)

module _ (rs : List Row) (works : ℕ → Work) (reports : ℕ → ℕ) (k : ℕ) where
  -- ---- one job
  -- by primary: 'its primary reported done inside its own window'
  abbrev pub Modelled : ℕ → Type 0
  Modelled j = Finished k works reports (opens (row_at rs k) j) (closes (row_at rs k) j)

  -- by alternate: 'its full alternate time inside that window'
  abbrev pub Fixed : ℕ → Type 0
  Fixed j = alternates k works (opens (row_at rs k) j) (closes (row_at rs k) j) ≡ (row_at rs k).alternate

  -- 'reported failed or overrun': in a slot of its window its primary ran and was reported failed, or was going on when its full primary time had run in the window
  abbrev pub FellIn : ℕ → Type 0
  FellIn j =
      (t : ℕ)
      × (opens (row_at rs k) j ≤ t)
      × (t < closes (row_at rs k) j)
      × (works t ≡ primary k)
      × ((reports t ≡ 2) ⊎ ((reports t ≡ 0) × (primaries k works (opens (row_at rs k) j) (suc t) ≡ (row_at rs k).primary)))

  -- ---- one bag
  -- "no job 'none' (0)"
  abbrev pub NoneBag : (start end : ℕ) → Type 0
  NoneBag start end = Each (row_at rs k) start end (λ j. ⊥)

  -- "all by primary is 'modelled' (1)": it looks at some job
  abbrev pub ModelledBag : (start end : ℕ) → Type 0
  ModelledBag start end = Some (row_at rs k) start end Modelled × Each (row_at rs k) start end Modelled

  -- "all by alternate 'fixed' (2)"
  abbrev pub FixedBag : (start end : ℕ) → Type 0
  FixedBag start end = Some (row_at rs k) start end Fixed × Each (row_at rs k) start end Fixed

  -- "both kinds 'mixed' (3)"
  abbrev pub MixedBag : (start end : ℕ) → Type 0
  MixedBag start end = Some (row_at rs k) start end Modelled × Some (row_at rs k) start end Fixed
