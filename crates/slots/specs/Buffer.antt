-- The reservations that a run keeps in a lent buffer: what the buffer holds, before and after a refill. No promise names these.
-- Assumes nothing: these are definitions.
use Rattle.std.specs.Prelude.{None, ◌≡◌, Bool, not, cond, ◌||◌, List, ℕ, suc, ◌-◌, ◌≤◌, ◌<◌, leb, eqb, get_or, length}
use Rattle.table.specs.declared.Row.{Row}
use Rattle.table.specs.Rows.{cycle_of}
use Rattle.table.specs.Windows.{window_end}
use Rattle.table.specs.Check.{fault_of}
use Rattle.rule.specs.Rule.{picks, holder}
use Rattle.reserve.specs.Tables.{ends}
use Rattle.reserve.specs.Turns.{claim_at}
use Rattle.slots.specs.declared.Record.{Record}
use Rattle.slots.specs.Sound.{claims_of}
use Rattle.slots.specs.OneSlot.{holder_at}

-- the buffer, which held `old`, is that of the record q
pub record Kept (rs : List Row) (cycle : ℕ) (q : Record) (old kept : List ℕ) : Type 0 where
  pub ticks : q.clock < cycle
  pub size : length kept ≡ length old
  pub behind : (s : ℕ) → s < q.clock → get_or kept s 0 ≡ 0
  pub ahead : (s : ℕ) → q.clock ≤ s → s < cycle → get_or kept s 0 ≡ holder_at rs q s
  pub past : (s : ℕ) → cycle ≤ s → get_or kept s 0 ≡ get_or old s 0

-- the job of the row at the place is done, and claims no more of its window, which ends at `end`: the buffer has the holders by the claims from before, which are those of q but for that
pub record Freed (rs : List Row) (cycle : ℕ) (q : Record) (place end : ℕ) (kept : List ℕ) : Type 0 where
  -- the claims from before
  pub K : ℕ → ℕ → ℕ
  pub is_row : place < length rs
  pub freed : (s : ℕ) → q.clock ≤ s → s < end → claims_of rs q place s ≡ 0
  pub others : (i s : ℕ) → i < length rs → q.clock ≤ s → (i ≡ place → end ≤ s) → claims_of rs q i s ≡ K i s
  pub bytes : (s : ℕ) → q.clock ≤ s → s < cycle → get_or kept s 0 ≡ holder (ends rs) K (length rs) s

-- what a refill up to `end` leaves of the buffer, which held `old`: from the clock on the record's own holders; and no byte behind the clock, at or after `end` changes
pub record Refilled (rs : List Row) (cycle : ℕ) (q : Record) (end : ℕ) (old kept : List ℕ) : Type 0 where
  pub size : length kept ≡ length old
  pub ahead : (s : ℕ) → q.clock ≤ s → s < cycle → get_or kept s 0 ≡ holder_at rs q s
  pub behind : (s : ℕ) → s < q.clock → get_or kept s 0 ≡ get_or old s 0
  pub beyond : (s : ℕ) → end ≤ s → get_or kept s 0 ≡ get_or old s 0

-- the buffer as a stretch of slots has ended before the record q: at slot 0 nothing is known of it; else it is 0 behind the clock and, but for a done, true from the clock on; after
-- a done of the row `finished`, counted from 1, it is as the claims from before have it
pub record Stale (rs : List Row) (cycle : ℕ) (q : Record) (finished : ℕ) (kept : List ℕ) : Type 0 where
  pub behind : 0 < q.clock → (s : ℕ) → s < q.clock → get_or kept s 0 ≡ 0
  pub ahead : 0 < q.clock → finished ≡ 0 → (s : ℕ) → q.clock ≤ s → s < cycle → get_or kept s 0 ≡ holder_at rs q s
  pub after_done : 0 < q.clock → (k : ℕ) → finished ≡ suc k → Freed rs cycle q k (ends rs k (q.clock - 1)) kept

-- ---- the steps towards these
-- the bytes of the slots from a up to, not including, b are those of f, and no other byte changes
pub record Written (a b : ℕ) (f : ℕ → ℕ) (old kept : List ℕ) : Type 0 where
  pub size : length kept ≡ length old
  pub inside : (s : ℕ) → a ≤ s → s < b → get_or kept s 0 ≡ f s
  pub behind : (s : ℕ) → s < a → get_or kept s 0 ≡ get_or old s 0
  pub beyond : (s : ℕ) → b ≤ s → get_or kept s 0 ≡ get_or old s 0

-- the byte of slot s is another row's, neither free nor the row's own; rows are counted from 1
abbrev pub foreign : ℕ → List ℕ → ℕ → Bool
foreign row bs s = not (eqb (get_or bs s 0) 0 || eqb (get_or bs s 0) row)

-- the byte of slot s once the row's job with the window's end e and the claim k has reserved, where the bytes were bs
abbrev pub byte_after : ℕ → ℕ → ℕ → List ℕ → ℕ → ℕ
byte_after row e k bs s = cond (picks (foreign row bs) e k s) row (get_or bs s 0)

-- and once each job of the row r has, from the clock's on; `units` are left of that one
abbrev pub row_after : Row → ℕ → ℕ → ℕ → List ℕ → ℕ → ℕ
row_after r row clock units bs s = byte_after row (window_end r s) (claim_at r clock units s) bs s

-- the byte of slot s where only the rows above the place keep theirs
abbrev pub above_at : ℕ → List ℕ → ℕ → ℕ
above_at place bs s = cond (leb (get_or bs s 0) place) (get_or bs s 0) 0

-- what a row asks to reserve up to the window's end of slot `until` - 1: by itself it is not refused, and that end is in the buffer and fits into 16 bits
pub record Holdable (r : Row) (clock until room : ℕ) : Type 0 where
  pub fault : fault_of 0 0 r ≡ None
  pub some : clock < until
  pub within : window_end r (until - 1) ≤ room
  pub fits : window_end r (until - 1) < 65536

-- from the clock on the first i rows hold their slots before `until`, and all rows theirs at or after it
pub record Rowed (rs : List Row) (q : Record) (until i : ℕ) (kept : List ℕ) : Type 0 where
  pub some : q.clock < until
  pub within : until ≤ cycle_of rs
  pub room : cycle_of rs ≤ length kept
  pub first : (s : ℕ) → q.clock ≤ s → s < until → get_or kept s 0 ≡ holder (ends rs) (claims_of rs q) i s
  pub all : (s : ℕ) → until ≤ s → s < cycle_of rs → get_or kept s 0 ≡ holder_at rs q s
