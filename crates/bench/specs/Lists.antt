-- A list of reports over the table of a file, from its fresh record: run at once, and by single slots.
-- Assumes nothing: these are definitions.
use Rattle.std.specs.Prelude.{ℕ, cond, List, [], ◌∷◌, ◌++◌, length, drop}
use Rattle.refusal.specs.Order.{accepted}
use Rattle.table.specs.declared.Table.{Table}
use Rattle.tablefile.specs.Answers.{read_as, hands_back}
use Rattle.slots.specs.declared.Record.{Record}
use Rattle.slots.specs.declared.Stepped.{Stepped}
use Rattle.slots.specs.declared.Ran.{Ran}
use Rattle.slots.specs.Records.{started_for}
use Rattle.slots.specs.Answers.{stepped_by, ran_by, log_after, buffer_after}

-- the table of a file; for a refused file that of zeros, which is refused in turn
unfoldable pub table_in : List ℕ → Table
table_in file = hands_back (read_as file)

unfoldable pub start_in : List ℕ → Record
start_in file = (started_for (table_in file)).start

-- ---- at once, with a lent log that held `old` and a lent buffer that held `kept`
unfoldable pub list_ran : (file reps old kept : List ℕ) → Ran
list_ran file reps old kept = ran_by (table_in file) (start_in file) reps old kept

unfoldable pub list_log : (file reps old kept : List ℕ) → List ℕ
list_log file reps old kept = log_after (table_in file) (start_in file) reps old kept

unfoldable pub list_buffer : (file reps old kept : List ℕ) → List ℕ
list_buffer file reps old kept = buffer_after (table_in file) (start_in file) reps old kept

-- ---- by single slots: the bytes of the accepted ones, up to a refusal or to the log's end
unfoldable pub singles : Table → Record → List ℕ → List ℕ → List ℕ
singles t q [] old = []
singles t q (rep ∷ reps) [] = []
singles t q (rep ∷ reps) (b ∷ old) =
    let s : Stepped = stepped_by t q rep in
    cond (accepted s.refusal) (s.ran ∷ singles t s.next reps old) []

unfoldable pub single_slots : List ℕ → List ℕ → List ℕ → List ℕ
single_slots file reps old = singles (table_in file) (start_in file) reps old

unfoldable pub single_log : List ℕ → List ℕ → List ℕ → List ℕ
single_log file reps old = single_slots file reps old ++ drop (length (single_slots file reps old)) old
