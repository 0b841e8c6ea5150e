-- The order desk's list of spans: what its check reads, what an accepted list has, and the bags' bytes as a list.
-- Assumes nothing.
use Rattle.std.specs.Prelude.{Some, None}
use mathlib.Core.Path.{◌≡◌, refl, sym, ap, ◌∙◌}
use mathlib.Core.Logic.{⊎_elim}
use mathlib.Core.Bool.{Bool, true, false, not, ◌||◌}
use mathlib.Core.List.{List, [], ◌∷◌, ◌++◌}
use Prim.Native.Nat.{ℕ, zero, suc, ◌+◌, ◌-◌, ◌*◌, ◌/◌, ◌≤◌, ◌<◌}
use native.Mathlib.Omega.{arith}
use lib.Dec.{eqb, ltb, leb}
use lib.ListN.{length, get_or, take, drop, length-append, length-drop, get_or-append}
use lib.Seq.{ext_get_or, get_or-append-add, get_or-drop}
use borrow.Author.Tests.{eqb-false, leb-false, ltb-false}
use Rattle.std.proofs.lemmas.List.{take_rest}
use Rattle.refusal.specs.declared.Refusal.TheVariants.{Dosing, Spans}
use Rattle.refusal.specs.Order.{given, or_else}
use Rattle.refusal.proofs.Order.{none_first, none_later, given_not}
use Rattle.table.specs.declared.Row.{Row}
use Rattle.rule.proofs.Tests.{side, or_first, or_second}
use Rattle.slots.specs.OneSlot.{Work}
use Rattle.dosing.specs.Bags.{bag_mark, bag_marks}
use Rattle.bagreport.specs.Answers.{desk_refusal}
use Rattle.bagreport.specs.Pairs.{bags, start_at, end_at, spans_fault}
use Rattle.bagreport.specs.Turns.{Ordered}

-- a span that cannot follow the previous one
abbrev pub bad_span : (start end slots previous : ℕ) → Bool
bad_span start end slots previous = leb end start || (ltb slots end || ltb start previous)

-- ---- the walk over the spans: what is left decides
or_last : (a b c d : Bool) → (a || (b || (c || d))) ≡ ((a || (b || c)) || d)
or_last true b c d = refl
or_last false true c d = refl
or_last false false c d = refl

-- a pair, and what is after it
fault_pair : (slots previous : ℕ) (left : List ℕ) → 2 ≤ length left
    → spans_fault slots previous left ≡ (bad_span (get_or left 0 0) (get_or left 1 0) slots previous || spans_fault slots (get_or left 1 0) (drop 2 left))
unfolding spans_fault
fault_pair slots previous [] h = absurd (omega arith)
fault_pair slots previous (start ∷ []) h = absurd (omega arith)
fault_pair slots previous (start ∷ end ∷ left) h = or_last (leb end start) (ltb slots end) (ltb start previous) (spans_fault slots end left)

-- less than a pair
fault_rest : (slots previous : ℕ) (left : List ℕ) → length left ≤ 1 → spans_fault slots previous left ≡ not (eqb (length left) 0)
unfolding spans_fault
fault_rest slots previous [] h = refl
fault_rest slots previous (start ∷ []) h = refl
fault_rest slots previous (start ∷ end ∷ left) h = absurd (omega arith)

module _ (slots previous : ℕ) (spans left : List ℕ) (inv : spans_fault slots 0 spans ≡ spans_fault slots previous left) where
  module _ {b : Bool} (h : 2 ≤ length left) (e : b ≡ bad_span (get_or left 0 0) (get_or left 1 0) slots previous) where
    pub fault_bad : b ≡ true → true ≡ spans_fault slots 0 spans
    fault_bad t = sym (inv ∙ fault_pair slots previous left h ∙ rw (← e, t))

    pub fault_step : b ≡ false → {n : ℕ} → n ≡ length left → spans_fault slots 0 spans ≡ spans_fault slots (get_or left 1 0) (take (n - 2) (drop 2 left))
    fault_step f k = inv ∙ fault_pair slots previous left h ∙ rw (← e, f, k, take_rest)

  pub fault_end : {b : Bool} → length left < 2 → b ≡ eqb (length left) 0 → not b ≡ spans_fault slots 0 spans
  fault_end h e = rw e (sym (inv ∙ fault_rest slots previous left (omega arith)))

-- ---- what a list that can be taken has
-- the pairs of a list without its first pair
pub next_start : (start end : ℕ) (spans : List ℕ) (c : ℕ) → start_at (start ∷ end ∷ spans) (suc c) ≡ start_at spans c
next_start start end spans c = let e : 2 * suc c ≡ suc (suc (2 * c)) = omega arith in ap (λ (k : ℕ). get_or (start ∷ end ∷ spans) k 0) e

pub next_end : (start end : ℕ) (spans : List ℕ) (c : ℕ) → end_at (start ∷ end ∷ spans) (suc c) ≡ end_at spans c
next_end start end spans c = let e : 2 * suc c + 1 ≡ suc (suc (2 * c + 1)) = omega arith in ap (λ (k : ℕ). get_or (start ∷ end ∷ spans) k 0) e

-- the first pair, and that the rest can be taken after it
record Taken (slots previous start end : ℕ) (spans : List ℕ) : Type 0 where
  after : previous ≤ start
  forward : start < end
  within : end ≤ slots
  rest : spans_fault slots end spans ≡ false

taken : (slots previous start end : ℕ) (spans : List ℕ) → spans_fault slots previous (start ∷ end ∷ spans) ≡ false → Taken slots previous start end spans
unfolding spans_fault
taken slots previous start end spans e =
    let later = or_second (leb end start) (ltb slots end || (ltb start previous || spans_fault slots end spans)) e in
    let last = or_second (ltb slots end) (ltb start previous || spans_fault slots end spans) later in
    record {
      after = ltb-false start previous (or_first (ltb start previous) (spans_fault slots end spans) last);
      forward = leb-false end start (or_first (leb end start) (ltb slots end || (ltb start previous || spans_fault slots end spans)) e);
      within = ltb-false slots end (or_first (ltb slots end) (ltb start previous || spans_fault slots end spans) later);
      rest = or_second (ltb start previous) (spans_fault slots end spans) last;
    }

never_odd : (slots previous start : ℕ) → spans_fault slots previous (start ∷ []) ≡ false → ⊥
unfolding spans_fault
never_odd slots previous start e = let z : ◌≡◌ {A = ℕ} 0 1 = cc in absurd (omega arith)

even_after : (slots previous : ℕ) (spans : List ℕ) → spans_fault slots previous spans ≡ false → length spans ≡ 2 * (length spans / 2)
even_after slots previous [] e = omega arith
even_after slots previous (start ∷ []) e = absurd (never_odd slots previous start e)
even_after slots previous (start ∷ end ∷ spans) e = omega (arith, even_after slots end spans (taken slots previous start end spans e).rest)

-- each pair
record Pair (slots previous : ℕ) (spans : List ℕ) (c : ℕ) : Type 0 where
  after : previous ≤ start_at spans c
  forward : start_at spans c < end_at spans c
  within : end_at spans c ≤ slots

pair_at : (slots previous : ℕ) (spans : List ℕ) → spans_fault slots previous spans ≡ false → (c : ℕ) → c < bags spans → Pair slots previous spans c
pair_at slots previous [] e c l = absurd (omega arith)
pair_at slots previous (start ∷ []) e c l = absurd (omega arith)
pair_at slots previous (start ∷ end ∷ spans) e zero l =
    let g = taken slots previous start end spans e in record { after = g.after; forward = g.forward; within = g.within }
pair_at slots previous (start ∷ end ∷ spans) e (suc c) l =
    let g = taken slots previous start end spans e in
    let k = pair_at slots end spans g.rest c (omega arith) in
    record {
      after = omega (arith, next_start start end spans c, k.after, g.after, g.forward);
      forward = omega (arith, next_start start end spans c, next_end start end spans c, k.forward);
      within = omega (arith, next_end start end spans c, k.within);
    }

pairs_apart : (slots previous : ℕ) (spans : List ℕ) → spans_fault slots previous spans ≡ false → (c d : ℕ) → c < d → d < bags spans → end_at spans c ≤ start_at spans d
pairs_apart slots previous [] e c d l u = absurd (omega arith)
pairs_apart slots previous (start ∷ []) e c d l u = absurd (omega arith)
pairs_apart slots previous (start ∷ end ∷ spans) e c zero l u = absurd (omega arith)
pairs_apart slots previous (start ∷ end ∷ spans) e zero (suc d) l u =
    omega (arith, next_start start end spans d, (pair_at slots end spans (taken slots previous start end spans e).rest d (omega arith)).after)
pairs_apart slots previous (start ∷ end ∷ spans) e (suc c) (suc d) l u =
    omega
    (arith, next_end start end spans c, next_start start end spans d, pairs_apart slots end spans (taken slots previous start end spans e).rest c d (omega arith) (omega arith))

pub fault_ordered : (slots : ℕ) (spans : List ℕ) → spans_fault slots 0 spans ≡ false → Ordered spans
fault_ordered slots spans e = record { forward = λ c l. (pair_at slots 0 spans e c l).forward; apart = pairs_apart slots 0 spans e }

pub fault_even : (slots : ℕ) (spans : List ℕ) → spans_fault slots 0 spans ≡ false → length spans ≡ 2 * (length spans / 2)
fault_even slots spans e = even_after slots 0 spans e

pub fault_within : (slots : ℕ) (spans : List ℕ) → spans_fault slots 0 spans ≡ false → (c : ℕ) → c < bags spans → end_at spans c ≤ slots
fault_within slots spans e c l = (pair_at slots 0 spans e c l).within

-- ---- 14, then 15
module _ (n row slots : ℕ) (spans : List ℕ) where
  pub desk_row : {b : Bool} → b ≡ (eqb row 0 || ltb n row) → b ≡ true → (Some Dosing) ≡ desk_refusal n row slots spans
  unfolding desk_refusal or_else
  desk_row e t = rw (← e, t) refl

  pub desk_spans : {b d : Bool} → b ≡ (eqb row 0 || ltb n row) → b ≡ false → d ≡ (spans_fault slots 0 spans || ltb 4294967295 slots) → d ≡ true
      → (Some Spans) ≡ desk_refusal n row slots spans
  unfolding desk_refusal or_else
  desk_spans e f e' t = rw (← e, f, ← e', t) refl

  pub desk_accepts : {b d : Bool} → b ≡ (eqb row 0 || ltb n row) → b ≡ false → d ≡ (spans_fault slots 0 spans || ltb 4294967295 slots) → d ≡ false
      → None ≡ desk_refusal n row slots spans
  unfolding desk_refusal or_else
  desk_accepts e f e' t = rw (← e, f, ← e', t) refl

-- nothing is refused
pub desk_none : (n row slots : ℕ) (spans : List ℕ) → desk_refusal n row slots spans ≡ None
    → (0 < row) × (row ≤ n) × (spans_fault slots 0 spans ≡ false) × (slots ≤ 4294967295)
unfolding desk_refusal
desk_none n row slots spans e =
    let first = given (eqb row 0 || ltb n row) Dosing in
    let later = given (spans_fault slots 0 spans || ltb 4294967295 slots) Spans in
    let a = given_not (eqb row 0 || ltb n row) Dosing (none_first first later e) in
    let b = given_not (spans_fault slots 0 spans || ltb 4294967295 slots) Spans (none_later first later e) in
    let nonzero = eqb-false row 0 (or_first (eqb row 0) (ltb n row) a) in (
      positive row nonzero,
      ltb-false n row (or_second (eqb row 0) (ltb n row) a),
      or_first (spans_fault slots 0 spans) (ltb 4294967295 slots) b,
      ltb-false 4294967295 slots (or_second (spans_fault slots 0 spans) (ltb 4294967295 slots) b),
    )
  where
    positive : (x : ℕ) → (x ≡ 0 → ⊥) → 0 < x
    positive zero h = absurd (h refl)
    positive (suc x) h = omega arith

-- ---- the bags' bytes as a list
module _ (rs : List Row) (works : ℕ → Work) (reports : ℕ → ℕ) (k : ℕ) where
  pub marks_length : (spans : List ℕ) → length (bag_marks rs works reports k spans) ≡ bags spans
  unfolding bag_marks
  marks_length [] = omega arith
  marks_length (start ∷ []) = omega arith
  marks_length (start ∷ end ∷ spans) = omega (arith, marks_length spans)

  pub marks_at : (spans : List ℕ) (c : ℕ) → c < bags spans → get_or (bag_marks rs works reports k spans) c 0 ≡ bag_mark rs works reports k (start_at spans c) (end_at spans c)
  unfolding bag_marks
  marks_at [] c l = absurd (omega arith)
  marks_at (start ∷ []) c l = absurd (omega arith)
  marks_at (start ∷ end ∷ spans) zero l = refl
  marks_at (start ∷ end ∷ spans) (suc c) l =
      marks_at spans c (omega arith)
      ∙ sym (ap (λ (x : ℕ). bag_mark rs works reports k x (end_at (start ∷ end ∷ spans) (suc c))) (next_start start end spans c)
      ∙ ap (bag_mark rs works reports k (start_at spans c)) (next_end start end spans c))

  -- bytes that are right bag by bag, and else as they were, are that list and then the bytes from before
  pub marks_list : (spans old new : List ℕ) → length new ≡ length old → bags spans ≤ length old
      → ((c : ℕ) → c < bags spans → get_or new c 0 ≡ bag_mark rs works reports k (start_at spans c) (end_at spans c))
      → ((c : ℕ) → bags spans ≤ c → get_or new c 0 ≡ get_or old c 0)
      → new ≡ bag_marks rs works reports k spans ++ drop (bags spans) old
  marks_list spans old new size room each stay =
      ext_get_or 0 new (marks ++ drop (bags spans) old)
      (omega (arith, size, room, length-append marks (drop (bags spans) old), length-drop (bags spans) old, marks_length spans)) same
    where
      marks : List ℕ
      marks = bag_marks rs works reports k spans

      first : (c : ℕ) → c < bags spans → get_or (marks ++ drop (bags spans) old) c 0 ≡ get_or marks c 0
      first c l = get_or-append marks (drop (bags spans) old) 0 c (omega (arith, marks_length spans))

      later : (c : ℕ) → bags spans ≤ c → get_or (marks ++ drop (bags spans) old) c 0 ≡ get_or old c 0
      later c l =
          let e : c ≡ length marks + (c - bags spans) = omega (arith, marks_length spans) in
          let e' : bags spans + (c - bags spans) ≡ c = omega arith in
          ap (λ (x : ℕ). get_or (marks ++ drop (bags spans) old) x 0) e
          ∙ get_or-append-add marks (drop (bags spans) old) (c - bags spans) 0
          ∙ get_or-drop (bags spans) old (c - bags spans) 0
          ∙ ap (λ (x : ℕ). get_or old x 0) e'

      same : (c : ℕ) → c < length new → get_or new c 0 ≡ get_or (marks ++ drop (bags spans) old) c 0
      same c l =
          ⊎_elim (λ (u : c < bags spans). each c u ∙ sym (first c u ∙ marks_at spans c u)) (λ (u : bags spans ≤ c). stay c u ∙ sym (later c u)) (side c (bags spans))
