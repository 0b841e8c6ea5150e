-- The second pass, where nothing is refused: what it asks for, and the bytes that it leaves.
-- Assumes nothing.
use Rattle.std.specs.Result.{result_err}
use Rattle.bagreport.specs.declared.due.Counts.{Counts}
use Rattle.std.specs.Prelude.{Option, None, Result, Ok}
use mathlib.Core.Path.{◌≡◌, sym, ap, ◌∙◌}
use mathlib.Core.List.{List, ◌++◌}
use Prim.Native.Nat.{ℕ, ◌+◌, ◌-◌, ◌/◌, ◌^◌, ◌≤◌, ◌<◌, min}
use native.Mathlib.Omega.{arith}
use lib.ListN.{length, get_or, drop, replicate, length-append, length-drop, length-replicate}
use lib.Seq.{get_or-append-add, get_or-drop}
use Rattle.refusal.specs.declared.Refusal.{Refusal}
use Rattle.table.specs.declared.Table.{Table}
use Rattle.table.specs.Rows.{used}
use Rattle.table.proofs.Check.{used_count}
use Rattle.reserve.specs.Check.{table_refusal}
use Rattle.reserve.proofs.Verdict.{table_accepted}
use Rattle.slots.specs.Records.{fresh_record}
use Rattle.slots.specs.Reports.{run_of}
use Rattle.slots.specs.History.{reported}
use Rattle.dosing.specs.Bags.{bag_mark, bag_marks}
use Rattle.bagreport.specs.Answers.{desk_refusal, works_of}
use Rattle.bagreport.specs.Pairs.{bags, start_at, end_at}
use Rattle.bagreport.specs.Turns.{Ordered, Bagged, Beyond}
use Rattle.bagreport.proofs.Passing.{bagged_start}
use Rattle.bagreport.proofs.SpanOrder.{fault_ordered, fault_within, desk_none, marks_list}

-- ---- one refusal as two calls say it
pub both_none : (f g : Option Refusal) → f ≡ g → f ≡ None → g ≡ None
both_none f g e z = sym e ∙ z

pub none_refused : (r : Result (List Counts) Refusal) (counts : List Counts) (g : Option Refusal) → result_err r ≡ g → r ≡ Ok counts → g ≡ None
none_refused r counts g e z = sym e ∙ ap result_err z

-- a table that is accepted has a row
pub first_row_lem : (t : Table) → table_refusal t ≡ None → length t.rows ≡ 16 → 0 < length (used t)
first_row_lem t z x = omega (arith, (table_accepted t z).some, used_count t x (table_accepted t z).few)

-- ---- what 14 and 15 leave
module _ (n row slots : ℕ) (spans : List ℕ) (e : desk_refusal n row slots spans ≡ None) where
  pub desk_row : 1 ≤ row
  desk_row = (desk_none n row slots spans e).0

  pub desk_few : slots < 2 ^ 32
  desk_few = omega (arith, (desk_none n row slots spans e).3)

  pub desk_ordered : Ordered spans
  desk_ordered = fault_ordered slots spans (desk_none n row slots spans e).2

pub desk_place : (t : Table) (row slots : ℕ) (spans : List ℕ) → table_refusal t ≡ None → length t.rows ≡ 16 → desk_refusal t.n row slots spans ≡ None → row - 1 < length (used t)
desk_place t row slots spans z x e =
    let d = desk_none t.n row slots spans e in
    let m : length (used t) ≡ t.n = used_count t x (table_accepted t z).few in
    omega (arith, d.0, d.1)

-- ---- the cleared bytes
module _ (t : Table) (reps spans old front : List ℕ) (room : length spans / 2 ≤ length old) (e : front ≡ replicate (length spans / 2) 0) where
  abbrev cleared : List ℕ
  cleared = front ++ drop (length spans / 2) old

  pub cleared_bags : (k : ℕ) → Bagged t reps k spans 0 (front ++ drop (length spans / 2) old)
  cleared_bags k = rw e (bagged_start t reps k spans old room)

  -- and what is left of them once each bag is marked
  module _ (row : ℕ) (new : List ℕ) (d : desk_refusal t.n row (length reps) spans ≡ None)
      (f : Option Refusal) (same : f ≡ (run_of (used t) (fresh_record t) reps).refusal) (accepted : (run_of (used t) (fresh_record t) reps).refusal ≡ None)
      (marked : f ≡ None → Bagged t reps (row - 1) spans (length reps) new) (kept : Beyond spans (front ++ drop (length spans / 2) old) new) where
    zeros : length front ≡ bags spans
    zeros = ap length e ∙ length-replicate (bags spans) 0

    -- no bag ends past the slots run
    whole : (c : ℕ) → c < bags spans → get_or new c 0 ≡ bag_mark (used t) (works_of t reps) (reported reps) (row - 1) (start_at spans c) (end_at spans c)
    whole c l =
        let ends : end_at spans c ≤ length reps = fault_within (length reps) spans (desk_none t.n row (length reps) spans d).2 c l in
        let m : min (end_at spans c) (length reps) ≡ end_at spans c = omega arith in
        (marked (same ∙ accepted)).each c l ∙ ap (bag_mark (used t) (works_of t reps) (reported reps) (row - 1) (start_at spans c)) m

    past : (c : ℕ) → bags spans ≤ c → get_or new c 0 ≡ get_or old c 0
    past c l =
        let n : ℕ = c - bags spans in
        let x : c ≡ length front + n = omega (arith, zeros) in
        let y : bags spans + n ≡ c = omega arith in
        kept.stay c l
        ∙ ap (λ (m : ℕ). get_or cleared m 0) x
        ∙ get_or-append-add front (drop (bags spans) old) n 0
        ∙ get_or-drop (bags spans) old n 0
        ∙ ap (λ (m : ℕ). get_or old m 0) y

    pub written_bytes : new ≡ bag_marks (used t) (works_of t reps) (reported reps) (row - 1) spans ++ drop (length spans / 2) old
    written_bytes =
        let size : length cleared ≡ length old = omega (arith, zeros, length-append front (drop (bags spans) old), length-drop (bags spans) old) in
        marks_list (used t) (works_of t reps) (reported reps) (row - 1) spans old new (kept.size ∙ size) room whole past
