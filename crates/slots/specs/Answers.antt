-- The answers of the question, of one slot and of a list of reports, refused ones too.
-- Assumes nothing: these are definitions.
use Rattle.std.specs.Prelude.{Option, Result, ℕ, ◌-◌, cond, ◌||◌, List, ◌++◌, ltb, length, drop, replicate}
use Rattle.refusal.specs.declared.Refusal.{Refusal}
use Rattle.refusal.specs.declared.Refusal.TheVariants.{Room}
use Rattle.refusal.specs.Order.{accepted, given, or_else, answer, beside}
use Rattle.refusal.specs.Lent.{overlaid}
use Rattle.table.specs.declared.Row.{Row}
use Rattle.table.specs.declared.Table.{Table}
use Rattle.table.specs.Rows.{used, cycle_of}
use Rattle.rule.specs.Sweep.{holders}
use Rattle.reserve.specs.Tables.{ends}
use Rattle.slots.specs.declared.Record.{Record}
use Rattle.slots.specs.declared.Stepped.{Stepped}
use Rattle.slots.specs.declared.Ran.{Ran}
use Rattle.slots.specs.Sound.{claims_of, record_refusal}
use Rattle.slots.specs.OneSlot.{what, byte_of, step_of}
use Rattle.slots.specs.Reports.{report_refusal, Outcome, stopped, run_of}

-- ---- the question: 'what runs at the clock, as the log's byte and without a report'; 1 to 7, then 9
unfoldable pub asked_of : Table → Record → Result ℕ Refusal
asked_of t q = answer (record_refusal t q) (byte_of (what (used t) q))

-- ---- one slot
-- with the refusal f: beside one, the record given and 0
unfoldable pub slot_under : Option Refusal → List Row → Record → ℕ → Stepped
slot_under f rs q rep = record { refusal = f; next = cond (accepted f) (step_of rs q rep) q; ran = beside f (byte_of (what rs q)) }

-- 1 to 7, 9, then 10 before 11
unfoldable pub stepped_by : Table → Record → ℕ → Stepped
stepped_by t q rep = slot_under (or_else (record_refusal t q) (report_refusal (what (used t) q) rep)) (used t) q rep

-- ---- a list of reports, with a lent log that held `old` and a lent buffer that held `kept`
-- 1 to 7, 9, then 8: 'The log needs as many bytes as there are reports.', and '8 also when that buffer is shorter than the cycle'
unfoldable pub entry_refusal : Table → Record → (reps old kept : List ℕ) → Option Refusal
entry_refusal t q reps old kept = or_else (record_refusal t q) (given (ltb (length old) (length reps) || ltb (length kept) (cycle_of (used t))) Room)

-- 'then, slot by slot, 10 before 11'
unfoldable pub outcome_of : Table → Record → (reps old kept : List ℕ) → Outcome
outcome_of t q reps old kept = cond (accepted (entry_refusal t q reps old kept)) (run_of (used t) q reps) (stopped (entry_refusal t q reps old kept) q)

-- 'it answers the number, the slots accepted, the record after them'
abbrev pub told : Outcome → Ran
told o = record { refusal = o.refusal; slots = length o.log; next = o.next }

unfoldable pub ran_by : Table → Record → (reps old kept : List ℕ) → Ran
ran_by t q reps old kept = told (outcome_of t q reps old kept)

-- 'and their log bytes, later bytes untouched'
unfoldable pub log_after : Table → Record → (reps old kept : List ℕ) → List ℕ
log_after t q reps old kept =
    let o : Outcome = outcome_of t q reps old kept in
    o.log ++ drop (length o.log) old

-- 'the buffer's first bytes, one for each slot of the cycle, hold the reservations of the record handed back, with 0 for slots behind its clock'
unfoldable pub reservations_of : List Row → Record → List ℕ
reservations_of rs q = replicate q.clock 0 ++ holders (ends rs) (claims_of rs q) (length rs) q.clock (cycle_of rs - q.clock)

-- 'later bytes stay. A refusal other than 10 or 11 leaves the buffer untouched, while 10 or 11 leaves it built, even at the first slot'
unfoldable pub buffer_after : Table → Record → (reps old kept : List ℕ) → List ℕ
buffer_after t q reps old kept = overlaid (entry_refusal t q reps old kept) (reservations_of (used t) (outcome_of t q reps old kept).next) kept
