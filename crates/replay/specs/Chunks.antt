-- A list of reports over a fresh start, whole and chunk by chunk.
-- Assumes nothing: these are definitions.
use Rattle.std.specs.Prelude.{None, ℕ, ◌+◌, cond, List, [], ◌∷◌, ◌++◌, length, drop}
use Rattle.std.specs.Result.{result_unwrap_or}
use Rattle.refusal.specs.Order.{accepted, beside}
use Rattle.table.specs.declared.Table.{Table}
use Rattle.table.specs.Rows.{used}
use Rattle.slots.specs.declared.Ran.{Ran}
use Rattle.slots.specs.Records.{fresh_record}
use Rattle.slots.specs.Reports.{Outcome, run_of}
use Rattle.slots.specs.Answers.{told}
use Rattle.slots.specs.LostUnits.{lost_from, lost_fresh}
use Rattle.replay.specs.declared.Progress.{Progress}

-- ---- whole: the refusal that stops the list, the slots accepted, the lost units, 0 beside a refusal, and the record after those slots
unfoldable pub replay_of : Table → List ℕ → Progress
replay_of t reps =
    let o : Outcome = run_of (used t) (fresh_record t) reps in
    record { refusal = o.refusal; slots = length o.log; lost = result_unwrap_or (lost_fresh t reps) 0; next = o.next }

-- and the log's bytes
unfoldable pub replay_log : Table → List ℕ → List ℕ
replay_log t reps = (run_of (used t) (fresh_record t) reps).log

-- ---- chunk by chunk
-- no report has been read
unfoldable pub start_of : Table → Progress
start_of t = record { refusal = None; slots = 0; lost = 0; next = fresh_record t }

-- with what the run of one more chunk answers, and its lost units
unfoldable pub moved_on : Progress → Ran → ℕ → Progress
moved_on p ran units = record { refusal = ran.refusal; slots = p.slots + ran.slots; lost = beside ran.refusal (p.lost + units); next = ran.next }

-- one more chunk, from the record that the ones before gave; after a refusal nothing moves
unfoldable pub onward_of : Table → Progress → List ℕ → Progress
onward_of t p reps = cond (accepted p.refusal) (moved_on p (told (run_of (used t) p.next reps)) (result_unwrap_or (lost_from t p.next reps) 0)) p

-- the log's bytes of one more chunk
unfoldable pub chunk_log : Table → Progress → List ℕ → List ℕ
chunk_log t p reps = cond (accepted p.refusal) (run_of (used t) p.next reps).log []

-- in a lent log that held `old`: later bytes untouched
unfoldable pub log_onward : Table → Progress → List ℕ → List ℕ → List ℕ
log_onward t p reps old = chunk_log t p reps ++ drop (length (chunk_log t p reps)) old

-- chunk after chunk
unfoldable pub after_chunks : Table → Progress → List (List ℕ) → Progress
after_chunks t p [] = p
after_chunks t p (chunk ∷ chunks) = after_chunks t (onward_of t p chunk) chunks

-- their logs' bytes, one after the other
unfoldable pub chunks_log : Table → Progress → List (List ℕ) → List ℕ
chunks_log t p [] = []
chunks_log t p (chunk ∷ chunks) = chunk_log t p chunk ++ chunks_log t (onward_of t p chunk) chunks

-- the one list that the chunks are
unfoldable pub joined : List (List ℕ) → List ℕ
joined [] = []
joined (chunk ∷ chunks) = chunk ++ joined chunks
