-- The report's answer and the lent bytes, for each way it ends.
-- Assumes nothing.
use Rattle.std.specs.Result.{result_err}
use Rattle.refusal.proofs.Lent.{overlaid_some}
use Rattle.bagreport.specs.declared.due.Counts.{Counts}
use Rattle.std.specs.Prelude.{Option, Some, None, Result, Err}
use mathlib.Core.Path.{◌≡◌, sym, ap, ◌∙◌}
use mathlib.Core.Bool.{Bool, cond}
use mathlib.Core.List.{List, ◌++◌}
use Prim.Native.Nat.{ℕ, ◌-◌, ◌/◌, ◌≤◌, ◌<◌}
use borrow.Author.Tests.{lt-ltb, le-ltb}
use lib.ListN.{length, drop, replicate}
use Rattle.refusal.specs.declared.Refusal.{Refusal}
use Rattle.refusal.specs.declared.Refusal.TheVariants.{Room}
use Rattle.refusal.specs.Order.{accepted, given, or_else}
use Rattle.refusal.specs.Lent.{overlaid}
use Rattle.refusal.proofs.Order.{passes}
use Rattle.table.specs.declared.Table.{Table}
use Rattle.table.specs.Rows.{used}
use Rattle.reserve.specs.Check.{table_refusal}
use Rattle.slots.specs.declared.Started.{Started}
use Rattle.slots.specs.Records.{fresh_record, started_for}
use Rattle.slots.specs.Reports.{run_of}
use Rattle.slots.specs.History.{reported}
use Rattle.dosing.specs.Bags.{bag_marks}
use Rattle.bagreport.specs.declared.BagReport.{BagReport}
use Rattle.bagreport.specs.Answers.{room_refusal, desk_refusal, bag_refusal, works_of, sixteen_shares, no_share, refused_with, report_of, marks_after}
use Rattle.bagreport.proofs.SpanOrder.{marks_length}

-- a call of `fresh`
fresh_refusal : (t : Table) (s : Started) → s ≡ started_for t → s.refusal ≡ table_refusal t
unfolding started_for
fresh_refusal t s e = ap (λ (x : Started). x.refusal) e

pub fresh_none : (t : Table) (s : Started) → s ≡ started_for t → s.refusal ≡ None → table_refusal t ≡ None
fresh_none t s e z = sym (fresh_refusal t s e) ∙ z

pub fresh_start : (t : Table) (s : Started) → s ≡ started_for t → s.start ≡ fresh_record t
unfolding started_for
fresh_start t s e = ap (λ (x : Started). x.start) e

module _ (t : Table) (reps : List ℕ) (row : ℕ) (spans old : List ℕ) where
  abbrev ran : Option Refusal
  ran = (run_of (used t) (fresh_record t) reps).refusal

  abbrev desk : Option Refusal
  desk = desk_refusal t.n row (length reps) spans

  -- ---- whatever it is refused by
  module _ (f : Refusal) (e : bag_refusal t reps row spans old ≡ Some f) where
    not_told : (r : BagReport) → r ≡ refused_with f → r ≡ report_of t reps row spans old
    unfolding report_of
    not_told r h =
        h ∙ ap (λ (g : Option Refusal). record { refusal = g; shares = cond (accepted g) (sixteen_shares t reps) (replicate 16 no_share) }) (sym e)

    not_written : old ≡ marks_after t reps row spans old
    unfolding marks_after
    not_written = overlaid_some (bag_refusal t reps row spans old) f (bag_marks (used t) (works_of t reps) (reported reps) (row - 1) spans) old e

  -- ---- 1 to 7
  module _ (s : Started) (e : s ≡ started_for t) (f : Refusal) (p : s.refusal ≡ Some f) where
    table_first : bag_refusal t reps row spans old ≡ Some f
    unfolding bag_refusal or_else
    table_first = ap (λ (g : Option Refusal). or_else g (or_else (room_refusal spans old) (or_else ran desk))) (sym (fresh_refusal t s e) ∙ p)

    pub table_told : (r : BagReport) → r ≡ refused_with f → r ≡ report_of t reps row spans old
    table_told = not_told f table_first

    pub table_kept : old ≡ marks_after t reps row spans old
    table_kept = not_written f table_first

  module _ (z : table_refusal t ≡ None) where
    after_table : or_else (room_refusal spans old) (or_else ran desk) ≡ bag_refusal t reps row spans old
    unfolding bag_refusal
    after_table = passes (table_refusal t) _ z

    -- ---- 8
    module _ (short : length old < length spans / 2) where
      room_first : bag_refusal t reps row spans old ≡ Some Room
      unfolding room_refusal or_else
      room_first =
          let g : room_refusal spans old ≡ Some Room = ap (λ (x : Bool). given x Room) (lt-ltb (length old) (length spans / 2) short) in
          sym after_table ∙ ap (λ (g : Option Refusal). or_else g (or_else ran desk)) g

      pub room_told : (r : BagReport) → r ≡ refused_with Room → r ≡ report_of t reps row spans old
      room_told = not_told Room room_first

      pub room_kept : old ≡ marks_after t reps row spans old
      room_kept = not_written Room room_first

    module _ (enough : length spans / 2 ≤ length old) where
      after_room : or_else ran desk ≡ bag_refusal t reps row spans old
      unfolding room_refusal
      after_room =
          let g : room_refusal spans old ≡ None = ap (λ (x : Bool). given x Room) (le-ltb (length old) (length spans / 2) enough) in
          passes (room_refusal spans old) (or_else ran desk) g ∙ after_table

      -- ---- 10 and 11
      module _ (r : Result (List Counts) Refusal) (e : result_err r ≡ (run_of (used t) (fresh_record t) reps).refusal) (f : Refusal) (p : r ≡ Err f) where
        run_first : bag_refusal t reps row spans old ≡ Some f
        unfolding or_else
        run_first = sym after_room ∙ ap (λ (g : Option Refusal). or_else g desk) (sym e ∙ ap result_err p)

        pub run_told : (r : BagReport) → r ≡ refused_with f → r ≡ report_of t reps row spans old
        run_told = not_told f run_first

        pub run_kept : old ≡ marks_after t reps row spans old
        run_kept = not_written f run_first

      module _ (whole : (run_of (used t) (fresh_record t) reps).refusal ≡ None) where
        after_run : desk_refusal t.n row (length reps) spans ≡ bag_refusal t reps row spans old
        after_run = passes ran desk whole ∙ after_room

        -- ---- 14 and 15
        module _ (g : Option Refusal) (e : g ≡ desk_refusal t.n row (length reps) spans) (f : Refusal) (p : g ≡ Some f) where
          pub desk_told : (r : BagReport) → r ≡ refused_with f → r ≡ report_of t reps row spans old
          desk_told = not_told f (sym after_run ∙ sym e ∙ p)

          pub desk_kept : old ≡ marks_after t reps row spans old
          desk_kept = not_written f (sym after_run ∙ sym e ∙ p)

        -- ---- no refusal
        module _ (f : Option Refusal) (e : f ≡ desk_refusal t.n row (length reps) spans) (n : f ≡ None) where
          is_none : None ≡ bag_refusal t reps row spans old
          is_none = sym n ∙ e ∙ after_run

          pub none_told : (r : BagReport) → r ≡ record { refusal = None; shares = sixteen_shares t reps } → r ≡ report_of t reps row spans old
          unfolding report_of
          none_told r h = h ∙ ap (λ (g : Option Refusal). record { refusal = g; shares = cond (accepted g) (sixteen_shares t reps) (replicate 16 no_share) }) is_none

          pub none_written : (new : List ℕ) → new ≡ bag_marks (used t) (works_of t reps) (reported reps) (row - 1) spans ++ drop (length spans / 2) old → new ≡ marks_after t reps row spans old
          unfolding marks_after overlaid
          none_written new h =
              let m : List ℕ = bag_marks (used t) (works_of t reps) (reported reps) (row - 1) spans in
              h ∙ ap (λ (n : ℕ). m ++ drop n old) (sym (marks_length (used t) (works_of t reps) (reported reps) (row - 1) spans)) ∙ ap (λ (g : Option Refusal). overlaid g m old) is_none
