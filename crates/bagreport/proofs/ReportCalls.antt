-- Calls of `bagreport::report`, each with whatever answer and lent bytes meet its contract, as the check reads it from the source.
-- Assumes nothing: these are definitions.
use mathlib.Core.List.{List}
use Prim.Native.Nat.{ℕ, ◌-◌}
use lib.ListN.{length, get_or}
use Rattle.table.specs.declared.Row.{Row}
use Rattle.table.specs.declared.Table.{Table}
use Rattle.table.specs.Rows.{used, row_at}
use Rattle.slots.specs.OneSlot.{Work}
use Rattle.slots.specs.History.{reported}
use Rattle.share.specs.declared.Share.{Share}
use Rattle.runs.proofs.Calls.{Call}
use Rattle.bagreport.specs.Pairs.{start_at, end_at}
use Rattle.bagreport.specs.Answers.{works_of, no_share}
use Rattle.bagreport.proofs.report.Kinds as report_kinds
use Rattle.bagreport.proofs.report.Reads as report

-- on a table, reports, a dosing row and spans, with lent bytes
abbrev pub ReportCall : Type 0
ReportCall = Call report_kinds.ps report_kinds.r report.Post

module _ (c : ReportCall) where
  abbrev pub bag_table : Table
  bag_table = c.given.0

  abbrev pub bag_reports : List ℕ
  bag_reports = c.given.1.0.now

  -- counted from 1
  abbrev pub bag_row : ℕ
  bag_row = c.given.1.1.0

  abbrev pub bag_spans : List ℕ
  bag_spans = c.given.1.1.1.0.now

  -- the lent bytes before, and at exit
  abbrev pub old_bytes : List ℕ
  old_bytes = c.given.1.1.1.1.0.now

  abbrev pub new_bytes : List ℕ
  new_bytes = c.left.1.1.1.1.0.now

  -- bag b's byte at exit
  abbrev pub bag_byte : ℕ → ℕ
  bag_byte b = get_or c.left.1.1.1.1.0.now b 0

  -- the share at place k, counted from 0
  abbrev pub share_at : ℕ → Share
  share_at k = get_or c.answer.shares k no_share

  -- ---- its history: what ran in each slot, and what was reported of it
  abbrev pub bag_rows : List Row
  bag_rows = used c.given.0

  abbrev pub bag_works : ℕ → Work
  bag_works = works_of c.given.0 c.given.1.0.now

  abbrev pub bag_heard : ℕ → ℕ
  bag_heard = reported c.given.1.0.now

  -- the dosing row, counted from 0
  abbrev pub dosing : ℕ
  dosing = c.given.1.1.0 - 1

  -- what is said of row k's jobs, and of bag b, over that history
  abbrev pub OfRow : ℕ → (List Row → (ℕ → Work) → (ℕ → ℕ) → (k j : ℕ) → Type 0) → ℕ → Type 0
  OfRow k Says = Says (used c.given.0) (works_of c.given.0 c.given.1.0.now) (reported c.given.1.0.now) k

  abbrev pub OfBag : ℕ → (List Row → (ℕ → Work) → (ℕ → ℕ) → (k start end : ℕ) → Type 0) → Type 0
  OfBag b Says =
      Says (used c.given.0) (works_of c.given.0 c.given.1.0.now) (reported c.given.1.0.now) (c.given.1.1.0 - 1)
      (start_at c.given.1.1.1.0.now b) (end_at c.given.1.1.1.0.now b)

  -- its row k, counted from 0, and how many slots it runs
  abbrev pub bag_row_at : ℕ → Row
  bag_row_at k = row_at (used c.given.0) k

  abbrev pub bag_slots : ℕ
  bag_slots = length c.given.1.0.now
