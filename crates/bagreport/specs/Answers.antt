-- The answer of the bag report, refused ones too, with lent bytes that held `old`.
-- Assumes nothing: these are definitions.
use Rattle.std.specs.Prelude.{Option, Some, ℕ, zero, suc, ◌-◌, cond, ◌||◌, List, [], ◌∷◌, ◌++◌, eqb, ltb, length, replicate}
use Rattle.refusal.specs.declared.Refusal.{Refusal}
use Rattle.refusal.specs.declared.Refusal.TheVariants.{Room, Dosing, Spans}
use Rattle.refusal.specs.Order.{accepted, given, or_else}
use Rattle.refusal.specs.Lent.{overlaid}
use Rattle.table.specs.declared.Table.{Table}
use Rattle.table.specs.Rows.{used}
use Rattle.reserve.specs.Check.{table_refusal}
use Rattle.slots.specs.Records.{fresh_record}
use Rattle.slots.specs.OneSlot.{Work}
use Rattle.slots.specs.Reports.{run_of}
use Rattle.slots.specs.History.{logged, reported}
use Rattle.share.specs.declared.Share.{Share}
use Rattle.share.specs.Share.{no_number, share_of}
use Rattle.dosing.specs.Jobs.{any, by_primary, fell, jobs_due}
use Rattle.dosing.specs.Bags.{bag_marks}
use Rattle.bagreport.specs.declared.BagReport.{BagReport}
use Rattle.bagreport.specs.Pairs.{bags, spans_fault}

-- ---- the refusals
-- 8: 'one lent byte for each whole pair'
unfoldable pub room_refusal : (spans old : List ℕ) → Option Refusal
room_refusal spans old = given (ltb (length old) (bags spans)) Room

-- 14 'for a dosing row outside the table'; 15 when the spans are at fault, 'or when there are more than 4,294,967,295 reports'
unfoldable pub desk_refusal : (n row slots : ℕ) → List ℕ → Option Refusal
desk_refusal n row slots spans =
    or_else (given (eqb row 0 || ltb n row) Dosing)
    (given (spans_fault slots 0 spans || ltb 4294967295 slots) Spans)

-- 1 to 7, 8, then, slot by slot, 10 before 11, 'after 01's for the run' 14, then 15
unfoldable pub bag_refusal : Table → (reps : List ℕ) (row : ℕ) (spans old : List ℕ) → Option Refusal
bag_refusal t reps row spans old =
    or_else (table_refusal t)
    (or_else (room_refusal spans old)
    (or_else (run_of (used t) (fresh_record t) reps).refusal (desk_refusal t.n row (length reps) spans)))

-- ---- the shares
-- what ran in each slot
abbrev pub works_of : Table → List ℕ → ℕ → Work
works_of t reps = logged (run_of (used t) (fresh_record t) reps).log

-- 'Among each row's jobs whose deadline has come, .. primaries done over all less those reported failed or overrun'
unfoldable pub row_share : Table → List ℕ → ℕ → Share
row_share t reps k =
    share_of (jobs_due (used t) (works_of t reps) (reported reps) by_primary k 0 (length reps))
    (jobs_due (used t) (works_of t reps) (reported reps) any k 0 (length reps) - jobs_due (used t) (works_of t reps) (reported reps) fell k 0 (length reps))

-- of the n rows from row k on
unfoldable pub row_shares : Table → List ℕ → (k n : ℕ) → List Share
row_shares t reps k zero = []
row_shares t reps k (suc n) = row_share t reps k ∷ row_shares t reps (suc k) n

-- 'and each place past the last row': a share without a divisor
unfoldable pub sixteen_shares : Table → List ℕ → List Share
sixteen_shares t reps = row_shares t reps 0 (length (used t)) ++ replicate (16 - length (used t)) (share_of 0 0)

-- 'Beside a refusal, every figure not named here is 0'
abbrev pub no_share : Share
no_share = record { mark = 0; done = 0; of = 0; share = no_number }

-- ---- the answer and the lent bytes
abbrev pub refused_with : Refusal → BagReport
refused_with f = record { refusal = Some f; shares = replicate 16 no_share }

unfoldable pub report_of : Table → (reps : List ℕ) (row : ℕ) (spans old : List ℕ) → BagReport
report_of t reps row spans old =
    let f : Option Refusal = bag_refusal t reps row spans old in
    record { refusal = f; shares = cond (accepted f) (sixteen_shares t reps) (replicate 16 no_share) }

-- 'no refusal here writes anything'; bytes past the pairs stay. Rows are counted from 1 in the call
unfoldable pub marks_after : Table → (reps : List ℕ) (row : ℕ) (spans old : List ℕ) → List ℕ
marks_after t reps row spans old = overlaid (bag_refusal t reps row spans old) (bag_marks (used t) (works_of t reps) (reported reps) (row - 1) spans) old
