-- When each refusal at a record is given, in the words of document 01's table 'Numbers of refusal' and of its order: 'The first that applies is given, and a later one only if no
-- earlier one applies.' The chain of tests that the code meets is not in it. Rows are counted from 0 here: row i is document 01's row i + 1.
-- Assumes nothing: these are definitions.
use Rattle.std.specs.Prelude.{Option, Some, None, ◌≡◌, ◌⊎◌, List, ℕ, ◌-◌, ◌≤◌, ◌<◌, length}
use Rattle.refusal.specs.declared.Refusal.{Refusal}
use Rattle.refusal.specs.declared.Refusal.TheVariants.{Empty, Many, Zero, Long, Order, Cycle, Tight, Room, Report, Stray, Size, Version, Dosing, Spans}
use Rattle.refusal.specs.declared.Refusal.TheVariants.{Record as NotSound}
use Rattle.table.specs.declared.Row.{Row}
use Rattle.table.specs.declared.Table.{Table}
use Rattle.table.specs.Rows.{used, row_at, cycle_of}
use Rattle.rule.specs.Rule.{between, held}
use Rattle.reserve.specs.Tables.{ends}
use Rattle.reserve.specs.Exactly.{TableGives}
use Rattle.slots.specs.declared.State.{State}
use Rattle.slots.specs.declared.State.TheVariants.{Waiting, Failed, Done}
use Rattle.slots.specs.declared.Job.{Job}
use Rattle.slots.specs.declared.Record.{Record}
use Rattle.slots.specs.Records.{job_at, fresh_record}
use Rattle.slots.specs.Sound.{claims_of}
use Rattle.slots.specs.OneSlot.{Work, primary, what}
use Rattle.slots.specs.Reports.{rec_after}
use Rattle.slots.specs.History.{reported}

-- ---- a sound record
-- what a job of each state has, in a row with the primary time p and the alternate time a; u units run
abbrev pub StateFits : State → (p a u left : ℕ) → Type 0
-- 'a waiting job has u from 0 to p-1 and a units left'
StateFits Waiting p a u left = (u < p) × (left ≡ a)
-- 'a failed job has u from 0 to p and left from 0 to a'
StateFits Failed p a u left = (u ≤ p) × (left ≤ a)
-- 'a done job has u from 1 to p and 0 left'
StateFits Done p a u left = (1 ≤ u) × (u ≤ p) × (left ≡ 0)

abbrev pub JobFits : Row → Job → Type 0
JobFits r j = StateFits j.state r.primary r.alternate j.run j.left

-- 'with the clock as the first usable slot', slot s is the first usable one of a window of row i in the cycle, and from there the window has fewer slots that no higher row holds
-- than its job claims: the rule leaves the job short
pub record ShortAt (rs : List Row) (q : Record) (i s : ℕ) : Type 0 where
  pub row : i < length rs
  pub from : q.clock ≤ s
  pub before : s < cycle_of rs
  pub begins : (s ≡ q.clock) ⊎ (ends rs i (s - 1) ≡ s)
  pub few : between (held (ends rs) (claims_of rs q) i) s (ends rs i s) < claims_of rs q i s

-- 'A record is sound when all of these hold'
pub record SoundAt (rs : List Row) (q : Record) : Type 0 where
  pub clock : q.clock < cycle_of rs
  pub jobs : (i : ℕ) → i < length rs → JobFits (row_at rs i) (job_at q.jobs i)
  pub enough : (i s : ℕ) → ShortAt rs q i s → ⊥

-- ---- one after the other
-- 'The first that applies is given, and a later one only if no earlier one applies.' f is an earlier one, or no earlier one applies and f is a later one
abbrev pub Then : (Earlier Later : Option Refusal → Type 0) → Option Refusal → Type 0
Then Earlier Later f = (Earlier f × (f ≡ None → ⊥)) ⊎ (Earlier None × Later f)

-- ---- at a record: the question, the waiting set
unfoldable pub RecordGives : Table → Record → Option Refusal → Type 0
RecordGives t q None = TableGives t None × SoundAt (used t) q
-- 9, after 1 to 7: 'the record isn't sound'
RecordGives t q (Some NotSound) = TableGives t None × (SoundAt (used t) q → ⊥)
-- 1 to 7
RecordGives t q (Some Empty) = TableGives t (Some Empty)
RecordGives t q (Some Many) = TableGives t (Some Many)
RecordGives t q (Some (Zero k)) = TableGives t (Some (Zero k))
RecordGives t q (Some (Long k)) = TableGives t (Some (Long k))
RecordGives t q (Some (Order k)) = TableGives t (Some (Order k))
RecordGives t q (Some Cycle) = TableGives t (Some Cycle)
RecordGives t q (Some (Tight k)) = TableGives t (Some (Tight k))
-- the others are not about a record
RecordGives t q (Some Room) = ⊥
RecordGives t q (Some Report) = ⊥
RecordGives t q (Some Stray) = ⊥
RecordGives t q (Some Size) = ⊥
RecordGives t q (Some Version) = ⊥
RecordGives t q (Some Dosing) = ⊥
RecordGives t q (Some Spans) = ⊥

-- ---- one slot
-- the slot ran a primary
abbrev pub RanPrimary : Work → Type 0
RanPrimary w = (k : ℕ) × (w ≡ primary k)

-- a report for a slot that ran w
unfoldable pub ReportGives : Work → ℕ → Option Refusal → Type 0
ReportGives w rep None = (rep ≡ 0) ⊎ (((rep ≡ 1) ⊎ (rep ≡ 2)) × RanPrimary w)
-- 10: 'a report is over 2'
ReportGives w rep (Some Report) = 2 < rep
-- 11: 'report 1 or 2 for a slot that ran no primary'
ReportGives w rep (Some Stray) = ((rep ≡ 1) ⊎ (rep ≡ 2)) × (RanPrimary w → ⊥)
-- the others are not about a report
ReportGives w rep (Some Empty) = ⊥
ReportGives w rep (Some Many) = ⊥
ReportGives w rep (Some (Zero k)) = ⊥
ReportGives w rep (Some (Long k)) = ⊥
ReportGives w rep (Some (Order k)) = ⊥
ReportGives w rep (Some Cycle) = ⊥
ReportGives w rep (Some (Tight k)) = ⊥
ReportGives w rep (Some Room) = ⊥
ReportGives w rep (Some NotSound) = ⊥
ReportGives w rep (Some Size) = ⊥
ReportGives w rep (Some Version) = ⊥
ReportGives w rep (Some Dosing) = ⊥
ReportGives w rep (Some Spans) = ⊥

-- 1 to 7, 9, then 10 before 11
unfoldable pub SlotGives : Table → Record → ℕ → Option Refusal → Type 0
SlotGives t q rep = Then (RecordGives t q) (ReportGives (what (used t) q) rep)

-- ---- a list of reports
-- none of the first n reports is refused, 'slot by slot'
unfoldable pub AcceptedTo : List Row → Record → List ℕ → ℕ → Type 0
AcceptedTo rs q reps n = (t : ℕ) → t < n → ReportGives (what rs (rec_after rs q reps t)) (reported reps t) None

-- from a sound record the list is stopped by f after n slots, or, where f is None, is run to its end
pub record ListStops (rs : List Row) (q : Record) (reps : List ℕ) (f : Option Refusal) (n : ℕ) : Type 0 where
  pub accepted : AcceptedTo rs q reps n
  pub stop : ((f ≡ None) × (n ≡ length reps)) ⊎ ((n < length reps) × (f ≡ None → ⊥) × ReportGives (what rs (rec_after rs q reps n)) (reported reps n) f)

-- a run with a lent log that holds `old` and a lent buffer that holds `kept` gives f after n slots: 1 to 7, 9, 8, then slot by slot
pub data RunGivesAt (t : Table) (q : Record) (reps old kept : List ℕ) (f : Option Refusal) (n : ℕ) : Type 0 where
  -- 1 to 7, 9
  at_record : RecordGives t q f → (f ≡ None → ⊥) → n ≡ 0 → RunGivesAt t q reps old kept f n
  -- 8: 'The log needs as many bytes as there are reports.' and '8 also when that buffer is shorter than the cycle'
  at_room : RecordGives t q None → (length old < length reps) ⊎ (length kept < cycle_of (used t)) → f ≡ (Some Room) → n ≡ 0 → RunGivesAt t q reps old kept f n
  -- 'then, slot by slot, 10 before 11'
  at_slot : RecordGives t q None → length reps ≤ length old → cycle_of (used t) ≤ length kept → ListStops (used t) q reps f n → RunGivesAt t q reps old kept f n

-- ---- lost units: 1 to 7, 9, then, slot by slot, 10 before 11
unfoldable pub LostGives : Table → Record → List ℕ → Option Refusal → Type 0
LostGives t q reps = Then (RecordGives t q) (λ f. (n : ℕ) × ListStops (used t) q reps f n)

-- from a fresh start: 'refused by 1 to 7, 10 and 11'
unfoldable pub LostFreshGives : Table → List ℕ → Option Refusal → Type 0
LostFreshGives t reps = Then (TableGives t) (λ f. (n : ℕ) × ListStops (used t) (fresh_record t) reps f n)
