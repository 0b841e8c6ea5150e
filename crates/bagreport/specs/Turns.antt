-- What private functions say of their work: no promise names these. Rows are counted from 0.
-- Assumes nothing: these are definitions.
use Rattle.std.specs.Prelude.{None, ◌≡◌, cond, List, ℕ, ◌+◌, ◌-◌, ◌≤◌, ◌<◌, min, eqb, length, get_or, take, replicate}
use Rattle.table.specs.declared.Row.{Row}
use Rattle.table.specs.declared.Table.{Table}
use Rattle.table.specs.Rows.{used, row_at}
use Rattle.reserve.specs.Check.{table_refusal}
use Rattle.slots.specs.declared.Record.{Record}
use Rattle.slots.specs.Records.{new_job, fresh_record}
use Rattle.slots.specs.OneSlot.{Work, idle, primary, alternate}
use Rattle.slots.specs.Reports.{run_of}
use Rattle.slots.specs.History.{reported, primaries}
use Rattle.slots.specs.LostUnits.{Ending, going, past, done, failed, overran, aborted, ending_of, by_report}
use Rattle.dosing.specs.Jobs.{any, by_primary, fell, jobs_due}
use Rattle.dosing.specs.Bags.{bag_mark}
use Rattle.dosing.specs.Turns.{start_of}
use Rattle.bagreport.specs.declared.told.Ended.{Ended}
use Rattle.bagreport.specs.declared.told.Ended.TheVariants.{Going, Done, Failed, Aborted}
use Rattle.bagreport.specs.declared.told.Open.{Open}
use Rattle.bagreport.specs.declared.due.Counts.{Counts}
use Rattle.bagreport.specs.declared.pass.Tale.{Tale}
use Rattle.bagreport.specs.Pairs.{bags, start_at, end_at}
use Rattle.bagreport.specs.Answers.{works_of}

-- ---- open jobs
-- how an ending is told
abbrev pub ended_of : Ending → Ended
ended_of going = Going
ended_of past = Going
ended_of done = Done
ended_of failed = Failed
ended_of overran = Failed
ended_of aborted = Aborted

-- the first ending stands
abbrev pub or_ended : (first later : Ended) → Ended
or_ended Going later = later
or_ended Done later = Done
or_ended Failed later = Failed
or_ended Aborted later = Aborted

-- an open job after a slot that runs its row's unit w
unfoldable pub told_by : Work → ℕ → Row → Open → Open
told_by idle rep r o = o
told_by (primary k) rep r o = record { units = o.units + 1; ended = or_ended o.ended (ended_of (by_report rep r.primary (o.units + 1))) }
told_by (alternate k) rep r o = record { units = o.units; ended = or_ended o.ended Aborted }

abbrev pub no_open : Open
no_open = record { units = 0; ended = Going }

-- row k's job whose window opens at slot s, after the slots up to slot t
unfoldable pub open_from : (works : ℕ → Work) (reports : ℕ → ℕ) (k : ℕ) (r : Row) (s t : ℕ) → Open
open_from works reports k r s t = record { units = primaries k works s t; ended = ended_of (ending_of works reports k r.primary s (new_job r) (t - s)) }

-- the open jobs after the slots up to slot `at`, of the windows that slot `from` is in
pub record Told (t : Table) (reps : List ℕ) (from at : ℕ) (os : List Open) : Type 0 where
  pub sixteen : length os ≡ 16
  pub each : (k : ℕ) → k < length (used t) → get_or os k no_open ≡ open_from (works_of t reps) (reported reps) k (row_at (used t) k) (start_of (row_at (used t) k) from) at
  -- at every place, past the rows too
  pub few : (k : ℕ) → (get_or os k no_open).units ≤ at

-- the log's bytes, of which the first is slot `base`'s, up to the n-th
pub record Logged (t : Table) (reps : List ℕ) (base n : ℕ) (log : List ℕ) : Type 0 where
  pub room : n ≤ length log
  pub listed : base + n ≤ length reps
  pub bytes : (i : ℕ) → i < n → get_or log i 0 ≡ get_or (run_of (used t) (fresh_record t) reps).log (base + i) 0
  pub small : (i : ℕ) → i < n → get_or log i 0 < 33

-- ---- counts
abbrev pub no_counts : Counts
no_counts = record { all = 0; done = 0; fell = 0 }

-- with one more job, whose primary has ended so
abbrev pub counted_by : Ended → Counts → Counts
counted_by Going c = record { all = c.all + 1; done = c.done; fell = c.fell }
counted_by Done c = record { all = c.all + 1; done = c.done + 1; fell = c.fell }
counted_by Failed c = record { all = c.all + 1; done = c.done; fell = c.fell + 1 }
counted_by Aborted c = record { all = c.all + 1; done = c.done; fell = c.fell }

-- row k's jobs whose deadline has come by slot `at`
unfoldable pub counts_to : Table → List ℕ → (k at : ℕ) → Counts
counts_to t reps k at =
    record {
      all = jobs_due (used t) (works_of t reps) (reported reps) any k 0 at;
      done = jobs_due (used t) (works_of t reps) (reported reps) by_primary k 0 at;
      fell = jobs_due (used t) (works_of t reps) (reported reps) fell k 0 at;
    }

pub record Counted (t : Table) (reps : List ℕ) (at : ℕ) (cs : List Counts) : Type 0 where
  pub sixteen : length cs ≡ 16
  pub each : (k : ℕ) → k < length (used t) → get_or cs k no_counts ≡ counts_to t reps k at
  pub past : (k : ℕ) → length (used t) ≤ k → get_or cs k no_counts ≡ no_counts

-- ---- bags
-- each bag ends after its start, and no later than the next one starts
pub record Ordered (spans : List ℕ) : Type 0 where
  pub forward : (c : ℕ) → c < bags spans → start_at spans c < end_at spans c
  pub apart : (c d : ℕ) → c < d → d < bags spans → end_at spans c ≤ start_at spans d

-- the bags before b end before slot s
pub record Past (spans : List ℕ) (b s : ℕ) : Type 0 where
  pub few : b ≤ bags spans
  pub ended : (c : ℕ) → c < b → end_at spans c < s

-- and bag b doesn't
pub record Sought (spans : List ℕ) (s b : ℕ) : Type 0 where
  pub past : Past spans b s
  pub here : b < bags spans → s ≤ end_at spans b

-- how a job was dosed: 1 by its primary, 2 by its alternate
abbrev pub kind_of : Ended → ℕ
kind_of Going = 2
kind_of Done = 1
kind_of Failed = 2
kind_of Aborted = 2

-- a bag's byte with one more job
abbrev pub joined_mark : ℕ → ℕ → ℕ
joined_mark mark kind = cond (eqb mark 0) kind (cond (eqb mark kind) mark 3)

-- the bag looks at the job whose deadline is slot s
abbrev pub Looks : List ℕ → ℕ → ℕ → Type 0
Looks spans s c = (c < bags spans) × (start_at spans c < s) × (s ≤ end_at spans c)

-- the bags' bytes with that job
pub record Remarked (spans : List ℕ) (s kind : ℕ) (old new : List ℕ) : Type 0 where
  pub size : length new ≡ length old
  pub looked : (c : ℕ) → Looks spans s c → get_or new c 0 ≡ joined_mark (get_or old c 0) kind
  pub others : (c : ℕ) → (Looks spans s c → ⊥) → get_or new c 0 ≡ get_or old c 0

-- each bag's byte by the jobs whose deadline has come by slot `at`
pub record Bagged (t : Table) (reps : List ℕ) (k : ℕ) (spans : List ℕ) (at : ℕ) (marks : List ℕ) : Type 0 where
  pub room : bags spans ≤ length marks
  pub each : (c : ℕ) → c < bags spans → get_or marks c 0 ≡ bag_mark (used t) (works_of t reps) (reported reps) k (start_at spans c) (min (end_at spans c) at)

-- bytes past the pairs stay
pub record Beyond (spans old new : List ℕ) : Type 0 where
  pub size : length new ≡ length old
  pub stay : (c : ℕ) → bags spans ≤ c → get_or new c 0 ≡ get_or old c 0

-- ---- a pass
-- the first `at` reports are accepted, and give the record q
pub record RunTo (t : Table) (reps : List ℕ) (at : ℕ) (q : Record) : Type 0 where
  pub table : table_refusal t ≡ None
  pub within : at ≤ length reps
  pub whole : (run_of (used t) (fresh_record t) (take at reps)).refusal ≡ None
  pub next : q ≡ (run_of (used t) (fresh_record t) (take at reps)).next

-- nothing has been told
abbrev pub no_tale : Tale
no_tale = record { opens = replicate 16 no_open; counts = replicate 16 no_counts; bag = 0 }

-- what has been told by slot `at`, for the bags to be looked at
pub record TaleAt (t : Table) (reps spans : List ℕ) (at : ℕ) (tale : Tale) : Type 0 where
  pub opens : Told t reps at at tale.opens
  pub counts : Counted t reps at tale.counts
  pub bag : Past spans tale.bag at
