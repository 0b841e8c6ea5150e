-- What a bag report has, refused or accepted, over the definitions of its contract.
-- Assumes nothing.
use Rattle.std.specs.Prelude.{Option, None}
use mathlib.Core.Path.{◌≡◌, refl, sym, ap, ◌∙◌, subst}
use mathlib.Core.Logic.{◌↔◌, ⊎_elim}
use mathlib.Core.Bool.{true, false}
use mathlib.Core.List.{List, ◌++◌}
use Prim.Native.Nat.{ℕ, zero, suc, ◌+◌, ◌-◌, ◌/◌, ◌≤◌, ◌<◌}
use native.Mathlib.Omega.{arith}
use borrow.Author.Tests.{ltb-false}
use lib.Dec.{ltb}
use lib.ListN.{length, get_or, drop, replicate, length-append, length-drop, get_or-append, get_or-eq_default}
use lib.Seq.{get_or-append-add, get_or-drop}
use Rattle.refusal.specs.declared.Refusal.{Refusal}
use Rattle.refusal.specs.declared.Refusal.TheVariants.{Room}
use Rattle.refusal.specs.Order.{accepted, or_else}
use Rattle.refusal.specs.Lent.{overlaid}
use Rattle.refusal.proofs.Order.{none_first, none_later, given_not, accepted_none}
use Rattle.table.specs.declared.Row.{Row}
use Rattle.table.specs.declared.Table.{Table}
use Rattle.table.specs.Rows.{used, blank, row_at}
use Rattle.rule.proofs.Tests.{split, side, never}
use Rattle.reserve.specs.Check.{table_refusal}
use Rattle.slots.specs.declared.Record.{Record}
use Rattle.slots.specs.Records.{fresh_of, fresh_record}
use Rattle.slots.specs.OneSlot.{Work}
use Rattle.slots.specs.Reports.{run_of}
use Rattle.slots.specs.History.{logged, reported}
use Rattle.slots.proofs.SoundRecord.{table_usable}
use Rattle.slots.proofs.ExactlyWhen.{not_none}
use Rattle.dosing.specs.Jobs.{by_primary, by_alternate}
use Rattle.dosing.specs.Bags.{mark_of, bag_mark, bag_marks}
use Rattle.dosing.specs.Meaning.{LooksAt, NoneBag, ModelledBag, FixedBag, MixedBag}
use Rattle.dosing.proofs.JobWindows.{closes_zero}
use Rattle.dosing.proofs.Due.{due_past}
use Rattle.dosing.proofs.JobKinds.{FromFresh, run_from_fresh}
use Rattle.dosing.proofs.Meaning.{marked_none, marked_modelled, marked_fixed, marked_mixed}
use Rattle.bagreport.specs.Pairs.{bags, start_at, end_at, spans_fault}
use Rattle.bagreport.specs.Answers.{room_refusal, desk_refusal, bag_refusal, works_of, sixteen_shares, no_share, report_of, marks_after}
use Rattle.bagreport.proofs.SpanOrder.{desk_none, fault_within, marks_length, marks_at}

-- ---- bytes laid over others
module _ (new old : List ℕ) where
  laid_over : (i : ℕ) → i < length new → get_or (new ++ drop (length new) old) i 0 ≡ get_or new i 0
  laid_over i l = get_or-append new (drop (length new) old) 0 i l

  laid_past : (i : ℕ) → length new ≤ i → get_or (new ++ drop (length new) old) i 0 ≡ get_or old i 0
  laid_past i l =
      let e : length new + (i - length new) ≡ i = omega arith in
      ap (λ (k : ℕ). get_or (new ++ drop (length new) old) k 0) (sym e)
      ∙ get_or-append-add new (drop (length new) old) (i - length new) 0
      ∙ get_or-drop (length new) old (i - length new) 0
      ∙ ap (λ (k : ℕ). get_or old k 0) e

-- ---- a bag's byte, past the rows too: there no job is looked at
module _ {rs : List Row} {N : ℕ} {works : ℕ → Work} {reports : ℕ → ℕ} (h : FromFresh rs N works reports) (k start end : ℕ) (ran : end ≤ N) where
  module _ (past : length rs ≤ k) where
    no_period : (row_at rs k).period ≡ 0
    no_period = ap (λ (r : Row). r.period) (get_or-eq_default rs blank past)

    no_mark : bag_mark rs works reports k start end ≡ 0
    unfolding bag_mark mark_of
    no_mark = rw (due_past rs works reports k by_primary no_period start end, due_past rs works reports k by_alternate no_period start end) refl

    no_look : (j : ℕ) → LooksAt (row_at rs k) start end j → ⊥
    no_look j l = omega (arith, l.after, closes_zero (row_at rs k) no_period j)

  by_row : (P : Type 0) → (k < length rs → P) → (length rs ≤ k → P) → P
  by_row P here past = ⊎_elim here past (side k (length rs))

  pub mark_none : (bag_mark rs works reports k start end ≡ 0) ↔ NoneBag rs works reports k start end
  mark_none = by_row _ (λ row. marked_none h k row start end ran) (λ past. (λ e. no_look past, λ b. no_mark past))

  pub mark_modelled : (bag_mark rs works reports k start end ≡ 1) ↔ ModelledBag rs works reports k start end
  mark_modelled =
      by_row _ (λ row. marked_modelled h k row start end ran) (λ past. (λ e. absurd (omega (arith, e, no_mark past)), λ b. absurd (no_look past b.0.0 b.0.1)))

  pub mark_fixed : (bag_mark rs works reports k start end ≡ 2) ↔ FixedBag rs works reports k start end
  mark_fixed = by_row _ (λ row. marked_fixed h k row start end ran) (λ past. (λ e. absurd (omega (arith, e, no_mark past)), λ b. absurd (no_look past b.0.0 b.0.1)))

  pub mark_mixed : (bag_mark rs works reports k start end ≡ 3) ↔ MixedBag rs works reports k start end
  mark_mixed = by_row _ (λ row. marked_mixed h k row start end ran) (λ past. (λ e. absurd (omega (arith, e, no_mark past)), λ b. absurd (no_look past b.0.0 b.0.1)))

mark_few : (p a : ℕ) → mark_of p a ≤ 3
unfolding mark_of
mark_few zero zero = omega arith
mark_few (suc p) zero = omega arith
mark_few zero (suc a) = omega arith
mark_few (suc p) (suc a) = omega arith

pub mark_of_four : (rs : List Row) (works : ℕ → Work) (reports : ℕ → ℕ) (k start end : ℕ) → bag_mark rs works reports k start end ≤ 3
unfolding bag_mark
mark_of_four rs works reports k start end = mark_few _ _

-- a refusal writes nothing
stays : (f : Option Refusal) (new old : List ℕ) → (f ≡ None → ⊥) → overlaid f new old ≡ old
unfolding overlaid
stays f new old h = rw (not_none f h) refl

-- the fresh record of an accepted table
pub fresh_is : (t : Table) → table_refusal t ≡ None → fresh_record t ≡ fresh_of (used t)
unfolding fresh_record
fresh_is t z = rw z refl

module _ (t : Table) (reps : List ℕ) (row : ℕ) (spans old : List ℕ) where
  abbrev gave : Option Refusal
  gave = bag_refusal t reps row spans old

  abbrev marks : List ℕ
  marks = bag_marks (used t) (works_of t reps) (reported reps) (row - 1) spans

  -- ---- refused: nothing is written, and every figure is 0
  pub refused_bytes : (bag_refusal t reps row spans old ≡ None → ⊥) → marks_after t reps row spans old ≡ old
  unfolding marks_after
  refused_bytes h = search (stays)

  pub refused_shares : (bag_refusal t reps row spans old ≡ None → ⊥) → (report_of t reps row spans old).shares ≡ replicate 16 no_share
  unfolding report_of
  refused_shares h = rw (not_none gave h) refl

  -- ---- accepted: what that says
  pub record Admitted : Type 0 where
    pub table : table_refusal t ≡ None
    pub room : bags spans ≤ length old
    pub run : (run_of (used t) (fresh_record t) reps).refusal ≡ None
    pub one : 0 < row
    pub last : row ≤ t.n
    pub spanned : spans_fault (length reps) 0 spans ≡ false
    pub slots : length reps ≤ 4294967295

  pub admits : bag_refusal t reps row spans old ≡ None → Admitted
  unfolding bag_refusal room_refusal
  admits z =
      let run : Option Refusal = (run_of (used t) (fresh_record t) reps).refusal in
      let desk : Option Refusal = desk_refusal t.n row (length reps) spans in
      let later : or_else (room_refusal spans old) (or_else run desk) ≡ None = none_later _ _ z in
      let last : or_else run desk ≡ None = none_later _ _ later in
      let d = desk_none t.n row (length reps) spans (none_later _ _ last) in
      record {
        table = none_first _ _ z;
        room = ltb-false (length old) (length spans / 2) (given_not (ltb (length old) (length spans / 2)) Room (none_first _ _ later));
        run = none_first _ _ last;
        one = d.0;
        last = d.1;
        spanned = d.2;
        slots = d.3;
      }

  module _ (z : bag_refusal t reps row spans old ≡ None) where
    written : marks_after t reps row spans old ≡ marks ++ drop (length marks) old
    unfolding marks_after overlaid
    written = rw z refl

    pub shares_are : (report_of t reps row spans old).shares ≡ sixteen_shares t reps
    unfolding report_of
    shares_are = rw z refl

    -- the history
    pub history : FromFresh (used t) (length reps) (works_of t reps) (reported reps)
    history =
        let e : fresh_record t ≡ fresh_of (used t) = fresh_is t (admits z).table in
        subst (λ (q : Record). FromFresh (used t) (length reps) (logged (run_of (used t) q reps).log) (reported reps)) (sym e)
        (run_from_fresh (used t) (table_usable t (admits z).table) reps (ap (λ (q : Record). (run_of (used t) q reps).refusal) (sym e) ∙ (admits z).run))

    pub bag_ends : (b : ℕ) → b < bags spans → end_at spans b ≤ length reps
    bag_ends = fault_within (length reps) spans (admits z).spanned

    pub byte_at : (b : ℕ) → b < bags spans
        → get_or (marks_after t reps row spans old) b 0 ≡ bag_mark (used t) (works_of t reps) (reported reps) (row - 1) (start_at spans b) (end_at spans b)
    byte_at b l =
        ap (λ (s : List ℕ). get_or s b 0) written
        ∙ laid_over marks old b (omega (arith, marks_length (used t) (works_of t reps) (reported reps) (row - 1) spans))
        ∙ marks_at (used t) (works_of t reps) (reported reps) (row - 1) spans b l

    written_past : (b : ℕ) → bags spans ≤ b → get_or (marks_after t reps row spans old) b 0 ≡ get_or old b 0
    written_past b l =
        ap (λ (s : List ℕ). get_or s b 0) written ∙ laid_past marks old b (omega (arith, marks_length (used t) (works_of t reps) (reported reps) (row - 1) spans))

    written_length : length (marks_after t reps row spans old) ≡ length old
    written_length =
        ap length written
        ∙ (let e : length (marks ++ drop (length marks) old) ≡ length old =
        omega (arith, length-append marks (drop (length marks) old), length-drop (length marks) old, marks_length (used t) (works_of t reps) (reported reps) (row - 1) spans, (admits z).room) in e)

  -- ---- refused or accepted
  either : (P : List ℕ → Type 0) → P old → (bag_refusal t reps row spans old ≡ None → P (marks_after t reps row spans old)) → P (marks_after t reps row spans old)
  either P kept wrote =
      ⊎_elim (λ (h : accepted gave ≡ true). wrote (accepted_none gave h))
      (λ (h : accepted gave ≡ false). subst P (sym (refused_bytes (λ e. never (ap accepted e) h))) kept) (split (accepted gave))

  pub bytes_past : (b : ℕ) → bags spans ≤ b → get_or (marks_after t reps row spans old) b 0 ≡ get_or old b 0
  bytes_past b l = either (λ s. get_or s b 0 ≡ get_or old b 0) refl (λ z. written_past z b l)

  pub bytes_length : length (marks_after t reps row spans old) ≡ length old
  bytes_length = either (λ s. length s ≡ length old) refl written_length
