-- When each refusal of a table given as rows is given: the column 'Given exactly when' of document 01's 'Numbers of refusal', for 1 to 7, for 8 where a list is handed out,
-- and for an acceptance, in 01's order. What specs/Exactly says of a refusal brings it about (the laws `-if`), and of every table it says something of some refusal (the laws
-- `some-`): so each is given exactly when.
-- Assumes nothing.
use Rattle.std.specs.Prelude.{Option, Some, None}
use mathlib.Core.Path.{◌≡◌, refl, sym, ap, ◌∙◌, subst}
use mathlib.Core.Logic.{◌⊎◌, inl, inr, ◌↔◌, ⊎_elim}
use mathlib.Core.Bool.{true, false, ◌||◌}
use mathlib.Core.List.{List}
use Prim.Native.Nat.{ℕ, zero, suc, ◌≤◌, ◌<◌}
use native.Mathlib.Numerals.{add-one}
use native.Mathlib.Nat.{eq-zero-or-pos}
use native.Mathlib.Omega.{arith}
use borrow.Author.Count.{below_none}
use borrow.Author.Tests.{eqb-true, eq-eqb, ne_eqb, ltb-true, lt-ltb, le-ltb}
use lib.Dec.{ltb, eqb}
use lib.ListN.{length, drop, drop_of_length-le}
use lib.Seq.{drop-cons}
use Rattle.refusal.specs.declared.Refusal.{Refusal}
use Rattle.refusal.specs.declared.Refusal.TheVariants.{Empty, Many, Zero, Long, Order, Cycle, Tight, Room, Dosing, Record, Report, Size, Spans, Stray, Version}
use Rattle.refusal.specs.Order.{accepted, given, or_else}
use Rattle.refusal.proofs.Order.{passes}
use Rattle.table.specs.declared.Row.{Row}
use Rattle.table.specs.declared.Table.{Table}
use Rattle.table.specs.Rows.{used, blank, row_at, cycle_of}
use Rattle.table.specs.Check.{is_zero, is_long, fault_of, faults_of, rows_refusal}
use Rattle.rule.proofs.Tests.{split, side, never, false_if, or_cases, or_left, or_right}
use Rattle.reserve.specs.Check.{tight_of, table_refusal}
use Rattle.reserve.specs.HandOut.{handed_refusal}
use Rattle.reserve.specs.Exactly.{ZeroRow, LongRow, EarlyRow, ClearRow, Reached, AllClear, Counted, RowGives, RowsGives, TableGives, HandedGives}
use Rattle.reserve.proofs.Verdict.{after_rows}
use Rattle.reserve.proofs.Demand2.{tight_exactly, accepted_exactly}

-- ---- the tests of a row say what is refused in it
module _ (r : Row) where
  zero_test : ZeroRow r → is_zero r ≡ true
  zero_test (inl e) = or_left _ _ (or_left _ _ (eq-eqb r.period 0 e))
  zero_test (inr (inl e)) = or_left _ _ (or_right (eqb r.period 0) _ (eq-eqb r.primary 0 e))
  zero_test (inr (inr e)) = or_right (eqb r.period 0 || eqb r.primary 0) _ (eq-eqb r.alternate 0 e)

  test_zero : is_zero r ≡ true → ZeroRow r
  test_zero h =
      ⊎_elim
      (λ g. ⊎_elim (λ e. inl (eqb-true r.period 0 e)) (λ e. inr (inl (eqb-true r.primary 0 e))) (or_cases _ _ g))
      (λ e. inr (inr (eqb-true r.alternate 0 e)))
      (or_cases _ _ h)

  no_zero : (ZeroRow r → ⊥) → is_zero r ≡ false
  no_zero z = false_if (is_zero r) (λ h. z (test_zero h))

  zero_or : ZeroRow r ⊎ (ZeroRow r → ⊥)
  zero_or = ⊎_elim (λ h. inl (test_zero h)) (λ h. inr (λ z. never (zero_test z) h)) (split (is_zero r))

  long_test : LongRow r → is_long r ≡ true
  long_test (inl l) = or_left _ _ (lt-ltb r.period r.primary l)
  long_test (inr l) = or_right (ltb r.period r.primary) _ (lt-ltb r.period r.alternate l)

  test_long : is_long r ≡ true → LongRow r
  test_long h = ⊎_elim (λ l. inl (ltb-true r.period r.primary l)) (λ l. inr (ltb-true r.period r.alternate l)) (or_cases _ _ h)

  no_long : (LongRow r → ⊥) → is_long r ≡ false
  no_long l = false_if (is_long r) (λ h. l (test_long h))

  long_or : LongRow r ⊎ (LongRow r → ⊥)
  long_or = ⊎_elim (λ h. inl (test_long h)) (λ h. inr (λ l. never (long_test l) h)) (split (is_long r))

-- the period of the row before row i, and 0 before the first, where no row stands
abbrev before : List Row → ℕ → ℕ
before rs zero = 0
before rs (suc i) = (row_at rs i).period

early_less : (rs : List Row) (i : ℕ) → EarlyRow rs i → (row_at rs i).period < before rs i
unfolding EarlyRow
early_less rs zero e = elim e [ ]
early_less rs (suc i) e = e

less_early : (rs : List Row) (i : ℕ) → (row_at rs i).period < before rs i → EarlyRow rs i
unfolding EarlyRow
less_early rs zero l = absurd (omega arith)
less_early rs (suc i) l = l

module _ (rs : List Row) where
  early_or : (i : ℕ) → EarlyRow rs i ⊎ (EarlyRow rs i → ⊥)
  early_or i = ⊎_elim (λ l. inl (less_early rs i l)) (λ l. inr (λ e. omega (arith, early_less rs i e))) (side (row_at rs i).period (before rs i))

  -- ---- the fault of row i: 'in each row 3, 4, 5'
  abbrev fault : ℕ → Option Refusal
  fault i = fault_of (suc i) (before rs i) (row_at rs i)

  module _ (i : ℕ) where
    fault_zero : ZeroRow (row_at rs i) → fault i ≡ Some (Zero (suc i))
    unfolding fault_of or_else
    fault_zero z = rw (zero_test (row_at rs i) z)

    module _ (z : ZeroRow (row_at rs i) → ⊥) where
      fault_long : LongRow (row_at rs i) → fault i ≡ Some (Long (suc i))
      unfolding fault_of or_else
      fault_long l = rw (no_zero (row_at rs i) z, long_test (row_at rs i) l)

      module _ (l : LongRow (row_at rs i) → ⊥) where
        fault_order : EarlyRow rs i → fault i ≡ Some (Order (suc i))
        unfolding fault_of or_else
        fault_order e = rw (no_zero (row_at rs i) z, no_long (row_at rs i) l, lt-ltb (row_at rs i).period (before rs i) (early_less rs i e))

        fault_none : (EarlyRow rs i → ⊥) → fault i ≡ None
        unfolding fault_of or_else
        fault_none e =
            ⊎_elim (λ (o : (row_at rs i).period < before rs i). absurd (e (less_early rs i o)))
            (λ (o : before rs i ≤ (row_at rs i).period). rw (no_zero (row_at rs i) z, no_long (row_at rs i) l, le-ltb (row_at rs i).period (before rs i) o))
            (side (row_at rs i).period (before rs i))

  -- ---- 'then rows from the first': the faults of the rows from row i on
  abbrev onward : ℕ → Option Refusal
  onward i = faults_of (suc i) (before rs i) (drop i rs)

  onward_step : (i : ℕ) → i < length rs → onward i ≡ or_else (fault i) (onward (suc i))
  unfolding faults_of
  onward_step i l =
      ap (faults_of (suc i) (before rs i)) (drop-cons rs i blank l)
      ∙ ap (λ (k : ℕ). or_else (fault i) (faults_of k (row_at rs i).period (drop (suc i) rs))) (add-one (suc i))

  -- rows in which nothing is refused are passed over
  onward_from : (i : ℕ) → i ≤ length rs → ((k : ℕ) → k < i → ClearRow rs k) → faults_of 1 0 rs ≡ onward i
  onward_from zero l s = refl
  onward_from (suc i) l s =
      let here : ClearRow rs i = s i (omega arith) in
      onward_from i (omega arith) (λ k u. s k (omega arith))
      ∙ onward_step i l
      ∙ sym (passes (fault i) (onward (suc i)) (fault_none i here.not_zero here.not_long here.not_early))

  faults_none : AllClear rs → faults_of 1 0 rs ≡ None
  unfolding faults_of
  faults_none s =
      let end : length rs ≤ length rs = omega arith in
      onward_from (length rs) end s ∙ ap (faults_of (suc (length rs)) (before rs (length rs))) (drop_of_length-le rs end)

  faults_row : (i : ℕ) (f : Option Refusal) → Reached rs i → fault i ≡ f → accepted f ≡ false → faults_of 1 0 rs ≡ f
  unfolding or_else
  faults_row i f r e a = onward_from i (omega (arith, r.row)) r.before ∙ onward_step i r.row ∙ rw (e, a)

-- ---- where each thing that `Gives` says of a refusal brings it about, and it says something of some refusal, each is given exactly when it says so
pub exact : {r : Option Refusal} (Gives : Option Refusal → Type 0) → ((f : Option Refusal) → Gives f → r ≡ f) → (f : Option Refusal) × Gives f → (f : Option Refusal) → (r ≡ f) ↔ Gives f
exact Gives brings some f = (λ e. subst Gives (sym (brings some.0 some.1) ∙ e) some.1, brings f)

module _ (t : Table) where
  abbrev rs : List Row
  rs = used t

  -- ---- 1 to 6: what is said of each refusal brings it about
  given_empty : t.n ≡ 0 → rows_refusal t ≡ (Some Empty)
  unfolding rows_refusal or_else
  given_empty e = simp (eq-eqb _ _ e)

  given_many : 16 < t.n → rows_refusal t ≡ (Some Many)
  unfolding rows_refusal or_else
  given_many l = simp (ne_eqb t.n 0 (λ z. omega arith), lt-ltb _ _ l)

  -- neither 1 nor 2
  counted : Counted t → rows_refusal t ≡ or_else (faults_of 1 0 rs) (given (ltb 4096 (cycle_of rs)) Cycle)
  unfolding rows_refusal or_else
  counted c = simp (ne_eqb t.n 0 (λ z. omega arith), le-ltb 16 t.n c.1)

  given_row : {k : ℕ} {What : ℕ → Type 0} (f : ℕ → Option Refusal) → accepted (f k) ≡ false → ((i : ℕ) → What i → fault rs i ≡ f (suc i)) → RowGives t k What → rows_refusal t ≡ f k
  unfolding or_else
  given_row {k} f a h g =
      rw (counted g.counted, faults_row rs g.i (f k) g.reached (h g.i g.what ∙ ap f (sym g.named)) a, a)

  module _ (c : Counted t) (s : AllClear rs) where
    given_cycle : 4096 < cycle_of rs → rows_refusal t ≡ (Some Cycle)
    unfolding or_else
    given_cycle l = rw (counted c, faults_none rs s, lt-ltb 4096 (cycle_of rs) l)

    given_none : cycle_of rs ≤ 4096 → rows_refusal t ≡ None
    unfolding or_else
    given_none l = rw (counted c, faults_none rs s, le-ltb 4096 (cycle_of rs) l)

  -- nothing gives the variants that have no clause here
  rows_if : (f : Option Refusal) → RowsGives t f → rows_refusal t ≡ f
  unfolding RowsGives
  rows_if None g = given_none g.0 g.1 g.2
  rows_if (Some Empty) g = given_empty g
  rows_if (Some Many) g = given_many g
  rows_if (Some (Zero k)) g = given_row (λ k. Some (Zero k)) refl (fault_zero rs) g
  rows_if (Some (Long k)) g = given_row (λ k. Some (Long k)) refl (λ i w. fault_long rs i w.0 w.1) g
  rows_if (Some (Order k)) g = given_row (λ k. Some (Order k)) refl (λ i w. fault_order rs i w.0 w.1 w.2) g
  rows_if (Some Cycle) g = given_cycle g.0 g.1 g.2
  rows_if (Some (Tight _)) g = elim g [ ]
  rows_if (Some Room) g = elim g [ ]
  rows_if (Some Record) g = elim g [ ]
  rows_if (Some Report) g = elim g [ ]
  rows_if (Some Stray) g = elim g [ ]
  rows_if (Some Size) g = elim g [ ]
  rows_if (Some Version) g = elim g [ ]
  rows_if (Some Dosing) g = elim g [ ]
  rows_if (Some Spans) g = elim g [ ]

  -- ---- and of every table one of these things can be said
  abbrev SomeRows : Type 0
  SomeRows = (f : Option Refusal) × RowsGives t f

  module _ (c : Counted t) where
    row_gives : (i : ℕ) → Reached rs i → ClearRow rs i ⊎ SomeRows
    unfolding RowsGives
    row_gives i r =
        ⊎_elim (λ z. inr (Some (Zero (suc i)), record { counted = c; i = i; named = refl; reached = r; what = z }))
        (λ z.
        ⊎_elim (λ l. inr (Some (Long (suc i)), record { counted = c; i = i; named = refl; reached = r; what = (z, l) }))
        (λ l.
        ⊎_elim (λ e. inr (Some (Order (suc i)), record { counted = c; i = i; named = refl; reached = r; what = (z, l, e) }))
        (λ e. inl (record { not_zero = z; not_long = l; not_early = e })) (early_or rs i)) (long_or (row_at rs i)))
        (zero_or (row_at rs i))

    rows_give : (m : ℕ) → m ≤ length rs → ((k : ℕ) → k < m → ClearRow rs k) ⊎ SomeRows
    rows_give zero l = inl (below_none (ClearRow rs))
    rows_give (suc m) l = ⊎_elim (λ s. ⊎_elim (λ here. inl (more s here)) inr (row_gives m (record { row = l; before = s }))) inr (rows_give m (omega arith))
      where
        more : ((k : ℕ) → k < m → ClearRow rs k) → ClearRow rs m → (k : ℕ) → k < suc m → ClearRow rs k
        more s here k u = ⊎_elim (λ (v : k < m). s k v) (λ (v : m ≤ k). let q : k ≡ m = omega arith in rw q here) (side k m)

    cycle_gives : AllClear rs → SomeRows
    unfolding RowsGives
    cycle_gives s = ⊎_elim (λ (l : 4096 < cycle_of rs). (Some Cycle, (c, s, l))) (λ (l : cycle_of rs ≤ 4096). (None, (c, s, l))) (side 4096 (cycle_of rs))

  some_rows : SomeRows
  unfolding RowsGives
  some_rows =
      ⊎_elim (λ (e : t.n ≡ 0). (Some Empty, e))
      (λ (p : 0 < t.n).
      ⊎_elim (λ (l : 16 < t.n). (Some Many, l)) (λ (l : t.n ≤ 16). ⊎_elim (cycle_gives (p, l)) (λ g. g) (rows_give (p, l) (length rs) (omega arith))) (side 16 t.n))
      (eq-zero-or-pos t.n)

  -- ---- the same of 1 to 7
  -- one of 1 to 6
  given_rows : (f : Option Refusal) → accepted f ≡ false → RowsGives t f → table_refusal t ≡ f
  unfolding table_refusal or_else
  given_rows f a g = rw (rows_if f g, a)

  given_if : (f : Option Refusal) → TableGives t f → table_refusal t ≡ f
  unfolding TableGives
  given_if None g = (accepted_exactly t (rows_if None g.0)).1 g.1
  given_if (Some Empty) g = given_rows (Some Empty) refl g
  given_if (Some Many) g = given_rows (Some Many) refl g
  given_if (Some (Zero k)) g = given_rows (Some (Zero k)) refl g
  given_if (Some (Long k)) g = given_rows (Some (Long k)) refl g
  given_if (Some (Order k)) g = given_rows (Some (Order k)) refl g
  given_if (Some Cycle) g = given_rows (Some Cycle) refl g
  given_if (Some (Tight k)) g = (tight_exactly t (rows_if None g.0) g.1.0).1 g.1.2 ∙ ap (λ k. Some (Tight k)) (sym g.1.1)
  given_if (Some Room) g = elim g [ ]
  given_if (Some Record) g = elim g [ ]
  given_if (Some Report) g = elim g [ ]
  given_if (Some Stray) g = elim g [ ]
  given_if (Some Size) g = elim g [ ]
  given_if (Some Version) g = elim g [ ]
  given_if (Some Dosing) g = elim g [ ]
  given_if (Some Spans) g = elim g [ ]

  abbrev SomeGives : Type 0
  SomeGives = (f : Option Refusal) × TableGives t f

  -- where 1 to 6 accept
  rule_gives : RowsGives t None → SomeGives
  unfolding TableGives
  rule_gives g = go (tight_of rs) (after_rows t e)
    where
      e : rows_refusal t ≡ None
      e = rows_if None g

      go : (k : ℕ) → given (ltb 0 k) (Tight k) ≡ table_refusal t → SomeGives
      go zero d = (None, (g, (accepted_exactly t e).0 (sym d)))
      go (suc i) d = (Some (Tight (suc i)), (g, (i, refl, (tight_exactly t e i).0 (sym (rw (lt-ltb 0 (suc i) (omega arith)) at d)))))

  some_gives : (f : Option Refusal) → RowsGives t f → SomeGives
  unfolding TableGives RowsGives
  some_gives None g = rule_gives g
  some_gives (Some Empty) g = (Some Empty, g)
  some_gives (Some Many) g = (Some Many, g)
  some_gives (Some (Zero k)) g = (Some (Zero k), g)
  some_gives (Some (Long k)) g = (Some (Long k), g)
  some_gives (Some (Order k)) g = (Some (Order k), g)
  some_gives (Some Cycle) g = (Some Cycle, g)
  some_gives (Some (Tight _)) g = elim g [ ]
  some_gives (Some Room) g = elim g [ ]
  some_gives (Some Record) g = elim g [ ]
  some_gives (Some Report) g = elim g [ ]
  some_gives (Some Stray) g = elim g [ ]
  some_gives (Some Size) g = elim g [ ]
  some_gives (Some Version) g = elim g [ ]
  some_gives (Some Dosing) g = elim g [ ]
  some_gives (Some Spans) g = elim g [ ]

-- 'Given exactly when': 1 to 6
pub rows_gives : (t : Table) (f : Option Refusal) → (rows_refusal t ≡ f) ↔ RowsGives t f
rows_gives t = exact (RowsGives t) (rows_if t) (some_rows t)

-- 1 to 7
pub table_gives : (t : Table) (f : Option Refusal) → (table_refusal t ≡ f) ↔ TableGives t f
table_gives t = exact (TableGives t) (given_if t) (some_gives t (some_rows t).0 (some_rows t).1)

-- and one is given at most
pub gives_one : (t : Table) (f g : Option Refusal) → TableGives t f → TableGives t g → f ≡ g
gives_one t f g p q = sym ((table_gives t f).1 p) ∙ (table_gives t g).1 q

-- ---- the same where a list is handed out
module _ (t : Table) (new old : List ℕ) where
  abbrev room : Option Refusal
  room = given (ltb (length old) (length new)) Room

  -- none of 1 to 7
  handed_last : TableGives t None → handed_refusal t new old ≡ room
  unfolding handed_refusal
  handed_last g = sym (passes (table_refusal t) room (given_if t None g))

  -- one of them
  handed_table : (f : Option Refusal) → accepted f ≡ false → TableGives t f → handed_refusal t new old ≡ f
  unfolding handed_refusal or_else
  handed_table f a g = rw (given_if t f g, a)

  handed_if : (f : Option Refusal) → HandedGives t new old f → handed_refusal t new old ≡ f
  unfolding HandedGives
  handed_if None g = handed_last g.0 ∙ rw (le-ltb (length old) (length new) g.1)
  handed_if (Some Room) g = handed_last g.0 ∙ rw (lt-ltb (length old) (length new) g.1)
  handed_if (Some Empty) g = handed_table (Some Empty) refl g
  handed_if (Some Many) g = handed_table (Some Many) refl g
  handed_if (Some (Zero k)) g = handed_table (Some (Zero k)) refl g
  handed_if (Some (Long k)) g = handed_table (Some (Long k)) refl g
  handed_if (Some (Order k)) g = handed_table (Some (Order k)) refl g
  handed_if (Some Cycle) g = handed_table (Some Cycle) refl g
  handed_if (Some (Tight k)) g = handed_table (Some (Tight k)) refl g
  handed_if (Some Record) g = elim g [ ]
  handed_if (Some Report) g = elim g [ ]
  handed_if (Some Stray) g = elim g [ ]
  handed_if (Some Size) g = elim g [ ]
  handed_if (Some Version) g = elim g [ ]
  handed_if (Some Dosing) g = elim g [ ]
  handed_if (Some Spans) g = elim g [ ]

  some_handed : (f : Option Refusal) → TableGives t f → (f : Option Refusal) × HandedGives t new old f
  unfolding HandedGives TableGives
  some_handed None g = ⊎_elim (λ (l : length old < length new). (Some Room, (g, l))) (λ (l : length new ≤ length old). (None, (g, l))) (side (length old) (length new))
  some_handed (Some Empty) g = (Some Empty, g)
  some_handed (Some Many) g = (Some Many, g)
  some_handed (Some (Zero k)) g = (Some (Zero k), g)
  some_handed (Some (Long k)) g = (Some (Long k), g)
  some_handed (Some (Order k)) g = (Some (Order k), g)
  some_handed (Some Cycle) g = (Some Cycle, g)
  some_handed (Some (Tight k)) g = (Some (Tight k), g)
  some_handed (Some Room) g = elim g [ ]
  some_handed (Some Record) g = elim g [ ]
  some_handed (Some Report) g = elim g [ ]
  some_handed (Some Stray) g = elim g [ ]
  some_handed (Some Size) g = elim g [ ]
  some_handed (Some Version) g = elim g [ ]
  some_handed (Some Dosing) g = elim g [ ]
  some_handed (Some Spans) g = elim g [ ]

  pub handed_gives : (f : Option Refusal) → (handed_refusal t new old ≡ f) ↔ HandedGives t new old f
  handed_gives = exact (HandedGives t new old) handed_if (some_handed (table_refusal t) ((table_gives t (table_refusal t)).0 refl))
