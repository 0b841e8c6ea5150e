-- The words of demand 2 on slots: what a record reserves, and the three points of document 01's 'One slot'. Rows are counted from 0: row i is document 01's row i + 1.
-- A i s says that row i reserves slot s.
-- Assumes nothing: these are definitions.
use Rattle.std.specs.Prelude.{◌≡◌, ◌≢◌, Bool, true, false, List, ℕ, suc, ◌+◌, ◌<◌, eqb, length}
use Rattle.table.specs.declared.Row.{Row}
use Rattle.table.specs.Rows.{row_at}
use Rattle.table.specs.Windows.{opens, closes}
use Rattle.rule.specs.Words.{above, Reserves}
use Rattle.reserve.specs.Tables.{ends}
use Rattle.reserve.specs.Demand.{InCycle}
use Rattle.slots.specs.declared.State.TheVariants.{Waiting}
use Rattle.slots.specs.declared.Record.{Record}
use Rattle.slots.specs.Records.{job_at}
use Rattle.slots.specs.OneSlot.{holder_at}

-- 'Reservations are worked out from the record': 'with the clock as the first usable slot', rows from row 1 down, each job reserves the latest of its slots that no higher row holds
pub record ReservedFrom (rs : List Row) (q : Record) (A : ℕ → ℕ → Bool) : Type 0 where
  -- 'each current job claiming its units left', in what its window has from the clock on
  pub current : (i : ℕ) → i < length rs → Reserves (above A i) (A i) q.clock (ends rs i q.clock) (job_at q.jobs i).left
  -- 'and each later job of the cycle claiming a'
  pub later : (i j : ℕ) → i < length rs → InCycle rs i j → q.clock < opens (row_at rs i) j
      → Reserves (above A i) (A i) (opens (row_at rs i) j) (closes (row_at rs i) j) (row_at rs i).alternate

-- the assignment that a record's holders say
abbrev pub named : List Row → Record → ℕ → ℕ → Bool
named rs q i s = eqb (holder_at rs q s) (suc i)

-- no row reserves the slot at the clock
abbrev pub Unreserved : List Row → Record → (ℕ → ℕ → Bool) → Type 0
Unreserved rs q A = (i : ℕ) → i < length rs → A i q.clock ≡ false

-- row k is 'the lowest-numbered waiting row'
pub record LowestWaits (rs : List Row) (q : Record) (k : ℕ) : Type 0 where
  pub row : k < length rs
  pub waits : (job_at q.jobs k).state ≡ Waiting
  pub none_lower : (j : ℕ) → j < k → (job_at q.jobs j).state ≢ Waiting

-- the byte b says what runs at the clock: '0 idle, k for a primary unit of row k, 16+k for an alternate unit'
pub record Points (rs : List Row) (q : Record) (A : ℕ → ℕ → Bool) (b : ℕ) : Type 0 where
  -- 1. 'If the slot at the clock is reserved, its holder's alternate runs one unit'
  pub holder : (i : ℕ) → i < length rs → A i q.clock ≡ true → b ≡ 17 + i
  -- 2. 'Otherwise the lowest-numbered waiting row's primary runs one unit'
  pub lowest : Unreserved rs q A → (k : ℕ) → LowestWaits rs q k → b ≡ 1 + k
  -- 3. 'Otherwise the slot is idle.'
  pub idle : Unreserved rs q A → ((k : ℕ) → k < length rs → (job_at q.jobs k).state ≢ Waiting) → b ≡ 0
