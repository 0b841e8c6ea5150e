-- What the program prints.
-- Assumes nothing: these are definitions.
use Rattle.std.specs.Prelude.{Some, None, Option, ℕ, zero, suc, List, [], ◌∷◌, ◌++◌}
use Rattle.refusal.specs.declared.Refusal.{Refusal}
use Rattle.refusal.specs.Numbers.{number_of, row_of}
use Rattle.table.specs.declared.Table.{Table}
use Rattle.slots.specs.declared.State.{State}
use Rattle.slots.specs.declared.State.TheVariants.{Waiting, Failed, Done}
use Rattle.slots.specs.declared.Job.{Job}
use Rattle.slots.specs.Records.{job_at}
use Rattle.slots.specs.OneSlot.{Work, idle, primary, alternate}
use Rattle.slots.specs.History.{work_of}
use Rattle.replay.specs.declared.Progress.{Progress}
use Rattle.replay.specs.Texts.{quoted, decimal, named}
use Rattle.replay.specs.Chunks.{replay_of, replay_log, onward_of, chunk_log}

-- ---- a line for each slot: 'SLOT idle', 'SLOT primary K' or 'SLOT alternate K', K the row from 1
abbrev pub work_text : Work → List ℕ
work_text idle = quoted " idle\n"
work_text (primary k) = named " primary " (suc k) ++ quoted "\n"
work_text (alternate k) = named " alternate " (suc k) ++ quoted "\n"

-- by the log's byte: '0 idle, k for a primary unit of row k, 16+k for an alternate unit'
unfoldable pub slot_line : ℕ → ℕ → List ℕ
slot_line slot ran = decimal slot ++ work_text (work_of ran)

-- the lines of a log whose first byte is of the slot s; slots are counted on past cycle ends
unfoldable pub log_lines : ℕ → List ℕ → List ℕ
log_lines s [] = []
log_lines s (ran ∷ log) = slot_line s ran ++ log_lines (suc s) log

-- ---- the lines after them
-- 'ran N lost U': N slots run and U lost units
unfoldable pub ran_line : ℕ → ℕ → List ℕ
ran_line slots lost = named "ran " slots ++ named " lost " lost ++ quoted "\n"

-- 'refused N row R': the refusal's number and the row that it names
unfoldable pub cause_text : Refusal → List ℕ
cause_text f = named "refused " (number_of f) ++ named " row " (row_of f)

-- 'refused N row R slots S': and the slots accepted in all
unfoldable pub refused_line : Refusal → ℕ → List ℕ
refused_line f slots = cause_text f ++ named " slots " slots ++ quoted "\n"

-- 'clock C'
unfoldable pub clock_line : ℕ → List ℕ
clock_line clock = named "clock " clock ++ quoted "\n"

-- a job's state
abbrev pub state_text : State → List ℕ
state_text Waiting = quoted " waiting "
state_text Failed = quoted " failed "
state_text Done = quoted " done "

-- the primary units run and the alternate units left
unfoldable pub units_text : ℕ → ℕ → List ℕ
units_text run left = decimal run ++ named " " left ++ quoted "\n"

-- 'ROW STATE RUN LEFT', the row from 1
unfoldable pub row_line : ℕ → Job → List ℕ
row_line row j = decimal row ++ state_text j.state ++ units_text j.run j.left

-- a line for each of the first n rows
unfoldable pub row_lines : List Job → ℕ → List ℕ
row_lines js zero = []
row_lines js (suc n) = row_lines js n ++ row_line (suc n) (job_at js n)

-- by the refusal that stopped the list, or none
abbrev pub ended : Option Refusal → (slots lost : ℕ) → List ℕ
ended None slots lost = ran_line slots lost
ended (Some f) slots lost = refused_line f slots

-- how the list ended
unfoldable pub end_line : Progress → List ℕ
end_line p = ended p.refusal p.slots p.lost

-- how it ended, and the record after the accepted slots, of n rows
unfoldable pub end_lines : ℕ → Progress → List ℕ
end_lines n p = end_line p ++ clock_line p.next.clock ++ row_lines p.next.jobs n

-- ---- all of them
-- for a list of reports over a fresh start
unfoldable pub replay_lines : Table → List ℕ → List ℕ
replay_lines t reps = log_lines 0 (replay_log t reps) ++ end_lines t.n (replay_of t reps)

-- one more chunk's
unfoldable pub chunk_lines : Table → Progress → List ℕ → List ℕ
chunk_lines t p reps = log_lines p.slots (chunk_log t p reps)

-- chunk after chunk, and at the end of the last
unfoldable pub chunks_lines : Table → Progress → List (List ℕ) → List ℕ
chunks_lines t p [] = end_lines t.n p
chunks_lines t p (chunk ∷ chunks) = chunk_lines t p chunk ++ chunks_lines t (onward_of t p chunk) chunks
