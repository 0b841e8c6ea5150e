-- Document 01's examples, P1 to P11, as one table of cases, each told by the definitions that the public contracts cite.
-- Assumes nothing: these are definitions.
use Rattle.std.specs.Prelude.{ℕ, suc, ◌-◌, ◌*◌, ◌/◌, ◌≡◌, cond, List, [], ◌∷◌, ◌++◌, eqb, length, replicate}
use Rattle.std.specs.Result.{result_err, result_unwrap_or}
use Rattle.refusal.specs.Numbers.{number_told, row_told}
use Rattle.table.specs.declared.Row.{Row}
use Rattle.table.specs.declared.Table.{Table}
use Rattle.table.specs.Rows.{used, row_at, cycle_of}
use Rattle.rule.specs.Rule.{first}
use Rattle.reserve.specs.Tables.{ends}
use Rattle.reserve.specs.Check.{table_check}
use Rattle.reserve.specs.Lists.{reservation_list, first_slots}
use Rattle.tablefile.specs.Layout.{file_bytes, padded}
use Rattle.tablefile.specs.Answers.{hands_back, read_as}
use Rattle.slots.specs.declared.State.{State}
use Rattle.slots.specs.declared.State.TheVariants.{Waiting}
use Rattle.slots.specs.declared.Job.{Job}
use Rattle.slots.specs.declared.Record.{Record}
use Rattle.slots.specs.declared.Ran.{Ran}
use Rattle.slots.specs.Records.{no_job, started_for}
use Rattle.slots.specs.Sound.{claims_of}
use Rattle.slots.specs.Answers.{asked_of, ran_by, log_after}
use Rattle.slots.specs.LostUnits.{sum}

abbrev row : ℕ → ℕ → ℕ → Row
row t p a = record { period = t; primary = p; alternate = a }

-- sixteen places, zeros past the rows
abbrev pub table : List Row → Table
table rs = record { n = length rs; rows = padded (length rs) rs }

abbrev job : State → ℕ → ℕ → Job
job s u left = record { state = s; run = u; left = left }

-- sixteen entries, nothing past the jobs given
abbrev standing : ℕ → List Job → Record
standing c js = record { clock = c; jobs = js ++ replicate (16 - length js) no_job }

-- what a lent byte held before
abbrev lent : ℕ
lent = 0xA5

pub data Case : Type 0 where
  -- a table's number of refusal, the row named, and the cycle
  checked : List Row → ℕ → ℕ → ℕ → Case
  -- the least common multiple of the periods
  cycling : List Row → ℕ → Case
  -- the load, as the slots of a cycle that the alternates of its jobs need, and the cycle
  loading : List Row → ℕ → ℕ → Case
  -- a table's first slots, rows in order
  starting : List Row → List ℕ → Case
  -- the slots that a row, counted from 1, holds
  holding : List Row → ℕ → List ℕ → Case
  -- a file's number of refusal, and the rows of the table handed back, with zeros past them
  reading : List ℕ → ℕ → List Row → Case
  -- the file of a table
  writing : List Row → List ℕ → Case
  -- reports from a fresh start: the number of refusal, the slots accepted, and the lent log after them, one byte for each report
  running : List Row → List ℕ → ℕ → ℕ → List ℕ → Case
  -- after reports from a fresh start: the first slot of the current job of a row, counted from 1
  moving : List Row → List ℕ → ℕ → ℕ → Case
  -- a record's number of refusal
  asking : List Row → Record → ℕ → Case

-- the slots that the alternates of a cycle's jobs need
unfoldable pub needed : List Row → ℕ
needed rs = sum (λ k. (row_at rs k).alternate * (cycle_of rs / (row_at rs k).period)) (length rs)

-- the places of the byte k in a list whose first place is s
unfoldable pub places : ℕ → ℕ → List ℕ → List ℕ
places k s [] = []
places k s (x ∷ xs) = cond (eqb x k) (s ∷ places k (suc s) xs) (places k (suc s) xs)

-- reports from a fresh start, with a lent byte for each, and one for each slot of the cycle: the answer, and the log after
unfoldable pub from_fresh : List Row → List ℕ → Ran
from_fresh rs reps = ran_by (table rs) (started_for (table rs)).start reps (replicate (length reps) lent) (replicate (cycle_of rs) lent)

unfoldable pub log_from_fresh : List Row → List ℕ → List ℕ
log_from_fresh rs reps = log_after (table rs) (started_for (table rs)).start reps (replicate (length reps) lent) (replicate (cycle_of rs) lent)

-- the first slot that the current job of row i, counted from 0, reserves after them
unfoldable pub first_after : List Row → List ℕ → ℕ → ℕ
first_after rs reps i =
    let q : Record = (from_fresh rs reps).next in
    first (ends (used (table rs))) (claims_of (used (table rs)) q) i q.clock

-- what a case claims
unfoldable pub Claim : Case → Type 0
Claim (checked rs n k c) =
    (number_told (result_err (table_check (table rs))) ≡ n) × (row_told (result_err (table_check (table rs))) ≡ k) × (result_unwrap_or (table_check (table rs)) 0 ≡ c)
Claim (cycling rs c) = cycle_of (used (table rs)) ≡ c
Claim (loading rs m c) = (needed (used (table rs)) ≡ m) × (cycle_of (used (table rs)) ≡ c)
Claim (starting rs xs) = first_slots (used (table rs)) ≡ xs
Claim (holding rs k xs) = places k 0 (reservation_list (used (table rs))) ≡ xs
Claim (reading s n rs) = (number_told (result_err (read_as s)) ≡ n) × ((hands_back (read_as s)).n ≡ length rs) × ((hands_back (read_as s)).rows ≡ (table rs).rows)
Claim (writing rs s) = file_bytes (table rs) ≡ s
Claim (running rs reps n m log) = (number_told (from_fresh rs reps).refusal ≡ n) × ((from_fresh rs reps).slots ≡ m) × (log_from_fresh rs reps ≡ log)
Claim (moving rs reps k s) = first_after rs reps (k - 1) ≡ s
Claim (asking rs q n) = number_told (result_err (asked_of (table rs) q)) ≡ n

-- each case of a list
unfoldable pub Each : List Case → Type 0
Each [] = Unit {0}
Each (x ∷ xs) = Claim x × Each xs

-- P11's file, with the version byte v
abbrev file : ℕ → List ℕ
file v = 0x00 ∷ 0x0E ∷ v ∷ 0x02 ∷ 0x00 ∷ 0x05 ∷ 0x00 ∷ 0x02 ∷ 0x00 ∷ 0x01 ∷ 0x00 ∷ 0x06 ∷ 0x00 ∷ 0x02 ∷ 0x00 ∷ 0x02 ∷ []

-- P1's table
abbrev pair : List Row
pair = row 5 2 1 ∷ row 6 2 2 ∷ []

-- P4's table
abbrev tight : List Row
tight = row 4 1 2 ∷ row 6 1 3 ∷ []

-- P8's table
abbrev full : List Row
full = row 4 1 4 ∷ []

abbrev pub cases : List Case
cases =
    -- P1
    starting pair (4 ∷ 9 ∷ 14 ∷ 19 ∷ 24 ∷ 29 ∷ 3 ∷ 10 ∷ 16 ∷ 22 ∷ 27 ∷ [])
    ∷ checked pair 0 0 30
    -- P2
    ∷ running pair (0 ∷ 2 ∷ 0 ∷ 0 ∷ 0 ∷ 0 ∷ 0 ∷ 1 ∷ 0 ∷ 1 ∷ []) 0 10 (1 ∷ 1 ∷ 2 ∷ 18 ∷ 17 ∷ 18 ∷ 1 ∷ 1 ∷ 2 ∷ 2 ∷ [])
    -- P3: after slot 1 the first slot of row 2 has moved from 3 to 4
    ∷ running pair (0 ∷ 1 ∷ 0 ∷ 1 ∷ 0 ∷ []) 0 5 (1 ∷ 1 ∷ 2 ∷ 2 ∷ 0 ∷ [])
    ∷ moving pair (0 ∷ []) 2 3
    ∷ moving pair (0 ∷ 1 ∷ []) 2 4
    -- P4: refused, though the load is exactly 1
    ∷ checked tight 7 2 0
    ∷ loading tight 12 12
    -- P5: accepted, though the load is over the quoted bound
    ∷ checked (row 4 1 2 ∷ row 6 1 2 ∷ []) 0 0 12
    ∷ holding (row 4 1 2 ∷ row 6 1 2 ∷ []) 2 (4 ∷ 5 ∷ 8 ∷ 9 ∷ [])
    -- P6, P7
    ∷ checked (row 63 1 1 ∷ row 64 1 1 ∷ []) 0 0 4032
    ∷ cycling (row 64 1 1 ∷ row 65 1 1 ∷ []) 4160
    ∷ checked (row 64 1 1 ∷ row 65 1 1 ∷ []) 6 0 0
    -- P8: its primary never runs
    ∷ checked full 0 0 4
    ∷ holding full 1 (0 ∷ 1 ∷ 2 ∷ 3 ∷ [])
    ∷ running full (0 ∷ 0 ∷ 0 ∷ 0 ∷ []) 0 4 (17 ∷ 17 ∷ 17 ∷ 17 ∷ [])
    -- P9
    ∷ asking full (standing 1 (job Waiting 0 4 ∷ [])) 9
    -- P10: three slots accepted, and the byte of the fourth stays
    ∷ running pair (0 ∷ 2 ∷ 0 ∷ 1 ∷ []) 11 3 (1 ∷ 1 ∷ 2 ∷ lent ∷ [])
    -- P11
    ∷ reading (file 1) 0 pair
    ∷ writing pair (file 1)
    ∷ reading (file 2) 13 []
    ∷ []
