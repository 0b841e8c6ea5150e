-- What private functions say of their work: no promise names these.
-- Assumes nothing: these are definitions.
use Rattle.std.specs.Prelude.{Option, Result, None, ◌≡◌, true, cond, not, ◌&&◌, List, [], ◌∷◌, ℕ, ◌+◌, ◌-◌, ◌^◌, ◌≤◌, ◌<◌, eqb, length}
use Rattle.std.specs.Int.Count.{count_trailing_zeros}
use Rattle.std.proofs.lemmas.List.Edits.{sets}
use Rattle.refusal.specs.declared.Refusal.{Refusal}
use Rattle.refusal.specs.Order.{answer}
use Rattle.table.specs.declared.Row.{Row}
use Rattle.table.specs.declared.Table.{Table}
use Rattle.table.specs.Rows.{used, row_at, cycle_of}
use Rattle.table.specs.Windows.{window_end}
use Rattle.rule.specs.Slots.{count, first_row}
use Rattle.reserve.specs.Check.{table_refusal}
use Rattle.slots.specs.declared.Job.{Job}
use Rattle.slots.specs.declared.Record.{Record}
use Rattle.slots.specs.declared.Started.{Started}
use Rattle.slots.specs.declared.Awaiting.{Awaiting}
use Rattle.slots.specs.declared.turn.Moved.{Moved}
use Rattle.slots.specs.declared.turn.Turn.{Turn}
use Rattle.slots.specs.Records.{job_at}
use Rattle.slots.specs.Sound.{sound}
use Rattle.slots.specs.OneSlot.{Work, idle, primary, alternate, is_waiting, waits, what, byte_of, on_primary, on_alternate, step_of}
use Rattle.slots.specs.WaitingSet.{set_from}
use Rattle.slots.specs.Buffer.{Kept}
use Rattle.slots.specs.Reports.{Outcome, report_refusal}
use Rattle.slots.specs.History.{work_of}

-- a start at slot 0 with the entries js, beside the refusal f or none
abbrev pub started_with : Option Refusal → List Job → Started
started_with f js = record { refusal = f; start = record { clock = 0; jobs = js } }

-- the waiting rows among the first n
unfoldable pub members_of : List Job → ℕ → Awaiting
members_of js n = record { set = set_from (waits js) 0 n; row = first_row (waits js) n; count = count (waits js) 0 n }

-- a sound record of an accepted table with its cycle
pub record Steady (t : Table) (cycle : ℕ) (q : Record) : Type 0 where
  pub table : table_refusal t ≡ None
  pub is_cycle : cycle ≡ cycle_of (used t)
  pub sound : sound (used t) q ≡ true

-- the next windows of the rows open at slot `opens` at the earliest, of those after slot s up to the cycle's end
pub record Quiet (rs : List Row) (cycle s opens : ℕ) : Type 0 where
  pub later : s < opens
  pub within : opens ≤ cycle
  pub none : (i : ℕ) → i < length rs → opens ≤ window_end (row_at rs i) s

-- a sound record by its parts, with its waiting set, the next slot at which a window opens, and the buffer that is true of it
pub record Standing (t : Table) (cycle clock : ℕ) (jobs : List Job) (waiting opens : ℕ) (kept : List ℕ) : Type 0 where
  pub steady : Steady t cycle (record { clock = clock; jobs = jobs })
  pub is_set : waiting ≡ set_from (waits jobs) 0 t.n
  pub quiet : Quiet (used t) cycle clock opens
  pub true_buffer : Kept (used t) cycle (record { clock = clock; jobs = jobs }) kept kept
  pub room : cycle ≤ length kept

-- what a run's loop leaves of the outcome o: the refusal that stopped it, the slots accepted, the record after them, and the lent log, which held `old`: no byte is set past its end
pub record RunLeaves (o : Outcome) (old : List ℕ) (refusal : Option Refusal) (slots : ℕ) (next : Record) (log : List ℕ) : Type 0 where
  pub stop : refusal ≡ o.refusal
  pub count : slots ≡ length o.log
  pub after : next ≡ o.next
  pub written : log ≡ sets old 0 o.log

-- the lowest member of a set, counted from 1; 0 of the empty set
abbrev pub lowest_in : ℕ → ℕ
lowest_in x = cond (eqb x 0) 0 (count_trailing_zeros 16 x + 1)

-- the place of the entry that a unit moves; an idle slot moves none
unfoldable pub entry_of : Work → ℕ
entry_of idle = 0
entry_of (primary k) = k
entry_of (alternate k) = k

-- the entry that a log's byte moves is a row's, and its primary's units do not pass what a number holds
pub record Workable (t : Table) (js : List Job) (ran : ℕ) : Type 0 where
  pub few : t.n < 17
  pub row : entry_of (work_of ran) < t.n
  pub small : (job_at js (entry_of (work_of ran))).run < 65535

-- a slot that runs w: the log's byte and that place, or the refusal of its report
abbrev pub turn_of : Work → ℕ → Result Turn Refusal
turn_of w rep = answer (report_refusal w rep) (record { ran = byte_of w; at = entry_of w })

-- that entry after the unit and its report
unfoldable pub moved_by : Work → ℕ → Row → Job → Job
moved_by idle rep r j = j
moved_by (primary k) rep r j = on_primary rep r j
moved_by (alternate k) rep r j = on_alternate j

-- the primary units of a job that waits: they are lost if its alternate begins
abbrev pub open_of : Job → ℕ
open_of j = cond (is_waiting j.state) j.run 0

-- what the unit adds to the lost units
unfoldable pub loss_by : Work → Job → ℕ
loss_by idle j = 0
loss_by (primary k) j = 0
loss_by (alternate k) j = open_of j

-- the unit of the entry at a place: the entry, the waiting set, what is lost, and the row that is done, counted from 1; 0 for none
unfoldable pub moved_of : Work → ℕ → Row → Job → (set at : ℕ) → Moved
moved_of w rep r j set at =
    let k : Job = moved_by w rep r j in
    record {
      job = k;
      waiting = cond (is_waiting j.state && not (is_waiting k.state)) (set - 2 ^ at) set;
      lost = loss_by w j;
      finished = cond (eqb rep 1) (byte_of w) 0;
    }

-- what a slot that runs w adds to the lost units
unfoldable pub loss_at : List Job → Work → ℕ
loss_at js idle = 0
loss_at js (primary k) = 0
loss_at js (alternate k) = open_of (job_at js k)

-- over a list of reports of which none is refused, slot by slot
unfoldable pub lost_by : List Row → Record → List ℕ → ℕ
lost_by rs q [] = 0
lost_by rs q (rep ∷ reps) = loss_at q.jobs (what rs q) + lost_by rs (step_of rs q rep) reps
