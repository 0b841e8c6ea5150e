-- When each refusal of the bag report is given: what specs/Exactly says of a refusal brings it about, and of every input it says something of some refusal.
-- Assumes nothing.
use Rattle.std.specs.Prelude.{Option, Some, None}
use mathlib.Core.Path.{◌≡◌, refl}
use mathlib.Core.Logic.{inl, inr, ◌↔◌, ⊎_elim}
use mathlib.Core.Bool.{Bool, true, false, ◌||◌}
use mathlib.Core.List.{List, [], ◌∷◌}
use Prim.Native.Nat.{ℕ, suc, ◌/◌, ◌<◌}
use native.Mathlib.Omega.{arith}
use borrow.Author.Tests.{eqb-true, eq-eqb, ltb-true, lt-ltb, leb-true}
use lib.Dec.{eqb, ltb, leb}
use lib.ListN.{length}
use Rattle.refusal.specs.declared.Refusal.{Refusal}
use Rattle.refusal.specs.declared.Refusal.TheVariants.{Room, Dosing, Spans}
use Rattle.refusal.specs.Order.{given}
use Rattle.table.specs.declared.Table.{Table}
use Rattle.table.specs.Rows.{used}
use Rattle.rule.proofs.Tests.{split, never, false_if, or_cases, or_left, or_right}
use Rattle.reserve.specs.Exactly.{TableGives}
use Rattle.reserve.proofs.Exactly.{exact, table_gives}
use Rattle.slots.specs.Records.{fresh_record}
use Rattle.slots.specs.Exactly.{Then, ListStops}
use Rattle.slots.proofs.ExactlyWhen.{chain}
use Rattle.slots.proofs.ListsWhen.{stop_gives}
use Rattle.bagreport.specs.Pairs.{bags, start_at, spans_fault}
use Rattle.bagreport.specs.Answers.{room_refusal, desk_refusal, bag_refusal}
use Rattle.bagreport.specs.Exactly.{Where, FewBytes, OutsideTable, BadSpans, BagGives, odd, backward, beyond, overlaps, many}
use Rattle.bagreport.proofs.SpanOrder.{next_start, next_end, fault_even, fault_ordered, fault_within}

-- ---- one refusal, by a test that says when
where_gives : {P : Type 0} (b : Bool) → (b ≡ true) ↔ P → (g : Refusal) (f : Option Refusal) → (given b g ≡ f) ↔ Where P g f
where_gives {P} b is g = exact (Where P g) brings some
  where
    brings : (f : Option Refusal) → Where P g f → given b g ≡ f
    brings f (inl h) = rw (is.1 h.0, h.1) refl
    brings f (inr h) = rw (false_if b (λ e. h.0 (is.0 e)), h.1) refl

    some : (f : Option Refusal) × Where P g f
    some = ⊎_elim (λ (e : b ≡ true). (Some g, inl (is.0 e, refl))) (λ (e : b ≡ false). (None, inr (λ p. never (is.1 p) e, refl))) (split b)

true_if : (b : Bool) → (b ≡ false → ⊥) → b ≡ true
true_if true h = refl
true_if false h = absurd (h refl)

-- ---- 8
few_exactly : (spans old : List ℕ) → (ltb (length old) (length spans / 2) ≡ true) ↔ FewBytes spans old
few_exactly spans old = (ltb-true (length old) (length spans / 2), lt-ltb (length old) (length spans / 2))

-- ---- 14
outside_exactly : (t : Table) (row : ℕ) → ((eqb row 0 || ltb t.n row) ≡ true) ↔ OutsideTable t row
outside_exactly t row = (
  λ e. ⊎_elim (λ z. inl (eqb-true row 0 z)) (λ l. inr (ltb-true t.n row l)) (or_cases (eqb row 0) (ltb t.n row) e),
  ⊎_elim (λ z. or_left (eqb row 0) (ltb t.n row) (eq-eqb row 0 z)) (λ l. or_right (eqb row 0) (ltb t.n row) (lt-ltb t.n row l)),
)

-- ---- 15
-- the reasons that are found in the list alone, after a bag that ended at `previous`
data Fault (slots previous : ℕ) (spans : List ℕ) : Type 0 where
  as_span : BadSpans slots spans → Fault slots previous spans
  as_first : 0 < bags spans → start_at spans 0 < previous → Fault slots previous spans

-- after a pair that is no fault by itself
bad_later : (slots start end : ℕ) (spans : List ℕ) → BadSpans slots spans → BadSpans slots (start ∷ end ∷ spans)
bad_later slots start end spans (odd e) = odd (omega arith)
bad_later slots start end spans (backward c l u) = backward (suc c) (omega arith) (omega (arith, next_start start end spans c, next_end start end spans c))
bad_later slots start end spans (beyond c l u) = beyond (suc c) (omega arith) (omega (arith, next_end start end spans c))
bad_later slots start end spans (overlaps c l u) = overlaps (suc c) (omega arith) (omega (arith, next_start start end spans (suc c), next_end start end spans c))
bad_later slots start end spans (many l) = many l

fault_later : (slots previous start end : ℕ) (spans : List ℕ) → Fault slots end spans → Fault slots previous (start ∷ end ∷ spans)
fault_later slots previous start end spans (as_span b) = as_span (bad_later slots start end spans b)
fault_later slots previous start end spans (as_first l u) = as_span (overlaps 0 (omega arith) (omega (arith, next_start start end spans 0)))

found : (slots previous : ℕ) (spans : List ℕ) → spans_fault slots previous spans ≡ true → Fault slots previous spans
unfolding spans_fault
found slots previous [] e = never e refl
found slots previous (start ∷ []) e = as_span (odd refl)
found slots previous (start ∷ end ∷ spans) e =
    ⊎_elim (λ b. as_span (backward 0 (omega arith) (leb-true end start b)))
    (λ h.
    ⊎_elim (λ b. as_span (beyond 0 (omega arith) (ltb-true slots end b)))
    (λ k.
    ⊎_elim (λ b. as_first (omega arith) (ltb-true start previous b))
    (λ rest. fault_later slots previous start end spans (found slots end spans rest))
    (or_cases (ltb start previous) (spans_fault slots end spans) k))
    (or_cases (ltb slots end) (ltb start previous || spans_fault slots end spans) h))
    (or_cases (leb end start) (ltb slots end || (ltb start previous || spans_fault slots end spans)) e)

module _ (slots : ℕ) (spans : List ℕ) where
  abbrev test : Bool
  test = spans_fault slots 0 spans || ltb 4294967295 slots

  bad_found : test ≡ true → BadSpans slots spans
  bad_found e = ⊎_elim (λ h. first (found slots 0 spans h)) (λ l. many (ltb-true 4294967295 slots l)) (or_cases (spans_fault slots 0 spans) (ltb 4294967295 slots) e)
    where
      -- nothing starts before slot 0
      first : Fault slots 0 spans → BadSpans slots spans
      first (as_span b) = b
      first (as_first l u) = absurd (omega arith)

  -- a list without a fault has none of the reasons
  in_list : (spans_fault slots 0 spans ≡ false → ⊥) → test ≡ true
  in_list h = or_left (spans_fault slots 0 spans) (ltb 4294967295 slots) (true_if (spans_fault slots 0 spans) h)

  bad_test : BadSpans slots spans → test ≡ true
  bad_test (many l) = or_right (spans_fault slots 0 spans) (ltb 4294967295 slots) (lt-ltb 4294967295 slots l)
  bad_test (odd e) = in_list (λ h. omega (arith, fault_even slots spans h))
  bad_test (backward c l u) = in_list (λ h. omega (arith, (fault_ordered slots spans h).forward c l))
  bad_test (beyond c l u) = in_list (λ h. omega (arith, fault_within slots spans h c l))
  bad_test (overlaps c l u) = in_list (λ h. omega (arith, (fault_ordered slots spans h).apart c (suc c) (omega arith) l))

  bad_exactly : (test ≡ true) ↔ BadSpans slots spans
  bad_exactly = (bad_found, bad_test)

-- ---- 1 to 7, 8, then, slot by slot, 10 before 11, then 14, then 15
pub report_gives : (t : Table) (reps : List ℕ) (row : ℕ) (spans old : List ℕ) (f : Option Refusal) → (bag_refusal t reps row spans old ≡ f) ↔ BagGives t reps row spans old f
unfolding bag_refusal room_refusal desk_refusal BagGives
report_gives t reps row spans old =
    let Run : Option Refusal → Type 0 = λ f. (n : ℕ) × ListStops (used t) (fresh_record t) reps f n in
    let Row : Option Refusal → Type 0 = Where (OutsideTable t row) Dosing in
    let Bags : Option Refusal → Type 0 = Where (BadSpans (length reps) spans) Spans in
    chain (TableGives t) (Then (Where (FewBytes spans old) Room) (Then Run (Then Row Bags))) (table_gives t)
    (chain (Where (FewBytes spans old) Room) (Then Run (Then Row Bags)) (where_gives _ (few_exactly spans old) Room)
    (chain Run (Then Row Bags) (stop_gives (used t) (fresh_record t) reps)
    (chain Row Bags (where_gives _ (outside_exactly t row) Dosing) (where_gives _ (bad_exactly (length reps) spans) Spans))))
