-- The test that the checker computes over the table of cases, and what a passed test says.
-- Assumes nothing.
use mathlib.Core.Path.{◌≡◌, refl}
use mathlib.Core.Bool.{Bool, true, false, ◌&&◌}
use mathlib.Core.List.{List, [], ◌∷◌}
use Prim.Native.Nat.{ℕ, ◌-◌}
use lib.Dec.{T, eqb, eqb→eq}
use lib.ListN.{length}
use Rattle.std.specs.Result.{result_err, result_unwrap_or}
use Rattle.refusal.specs.Numbers.{number_told, row_told}
use Rattle.table.specs.declared.Row.{Row}
use Rattle.table.specs.Rows.{used, cycle_of}
use Rattle.reserve.specs.Check.{table_check}
use Rattle.reserve.specs.Lists.{reservation_list, first_slots}
use Rattle.tablefile.specs.Layout.{file_bytes}
use Rattle.tablefile.specs.Answers.{hands_back, read_as}
use Rattle.tablefile.proofs.RoundTrips.{same_row}
use Rattle.slots.specs.Answers.{asked_of}
use Rattle.cases.specs.Cases.{Case, checked, cycling, loading, starting, holding, reading, writing, running, moving, asking, table, needed, places, from_fresh, log_from_fresh, first_after, Claim, Each}

-- ---- the test
unfoldable pub same : List ℕ → List ℕ → Bool
same [] [] = true
same [] (y ∷ ys) = false
same (x ∷ xs) [] = false
same (x ∷ xs) (y ∷ ys) = eqb x y && same xs ys

unfoldable pub same_rows : List Row → List Row → Bool
same_rows [] [] = true
same_rows [] (y ∷ ys) = false
same_rows (x ∷ xs) [] = false
same_rows (x ∷ xs) (y ∷ ys) = eqb x.period y.period && (eqb x.primary y.primary && (eqb x.alternate y.alternate && same_rows xs ys))

unfoldable pub passes : Case → Bool
passes (checked rs n k c) = eqb (number_told (result_err (table_check (table rs)))) n && (eqb (row_told (result_err (table_check (table rs)))) k && eqb (result_unwrap_or (table_check (table rs)) 0) c)
passes (cycling rs c) = eqb (cycle_of (used (table rs))) c
passes (loading rs m c) = eqb (needed (used (table rs))) m && eqb (cycle_of (used (table rs))) c
passes (starting rs xs) = same (first_slots (used (table rs))) xs
passes (holding rs k xs) = same (places k 0 (reservation_list (used (table rs)))) xs
passes (reading s n rs) =
    eqb (number_told (result_err (read_as s))) n && (eqb (hands_back (read_as s)).n (length rs) && same_rows (hands_back (read_as s)).rows (table rs).rows)
passes (writing rs s) = same (file_bytes (table rs)) s
passes (running rs reps n m log) = eqb (number_told (from_fresh rs reps).refusal) n && (eqb (from_fresh rs reps).slots m && same (log_from_fresh rs reps) log)
passes (moving rs reps k s) = eqb (first_after rs reps (k - 1)) s
passes (asking rs q n) = eqb (number_told (result_err (asked_of (table rs) q))) n

-- passed by each case of a list
infixr 20 ◌then◌
pub data All : List Case → Type 0 where
  none : All []
  ◌then◌ : {x : Case} {xs : List Case} → T (passes x) → All xs → All (x ∷ xs)

-- ---- what it says
both : (a b : Bool) → T (a && b) → T a × T b
both true b p = (tt, p)
both false b p = absurd p

same_is : (xs ys : List ℕ) → T (same xs ys) → xs ≡ ys
unfolding same
same_is [] [] p = refl
same_is [] (y ∷ ys) p = absurd p
same_is (x ∷ xs) [] p = absurd p
same_is (x ∷ xs) (y ∷ ys) p =
    let q = both (eqb x y) (same xs ys) p in
    rw (eqb→eq x y q.0, same_is xs ys q.1)

same_rows_lem : (xs ys : List Row) → T (same_rows xs ys) → xs ≡ ys
unfolding same_rows
same_rows_lem [] [] p = refl
same_rows_lem [] (y ∷ ys) p = absurd p
same_rows_lem (x ∷ xs) [] p = absurd p
same_rows_lem (x ∷ xs) (y ∷ ys) p =
    let d = both (eqb x.period y.period) (eqb x.primary y.primary && (eqb x.alternate y.alternate && same_rows xs ys)) p in
    let e = both (eqb x.primary y.primary) (eqb x.alternate y.alternate && same_rows xs ys) d.1 in
    let f = both (eqb x.alternate y.alternate) (same_rows xs ys) e.1 in
    let head = same_row x y (eqb→eq x.period y.period d.0) (eqb→eq x.primary y.primary e.0) (eqb→eq x.alternate y.alternate f.0) in
    rw (head, same_rows_lem xs ys f.1)

-- two numbers and a third test
three : (x n y k : ℕ) (c : Bool) → T (eqb x n && (eqb y k && c)) → (x ≡ n) × (y ≡ k) × T c
three x n y k c p =
    let q = both (eqb x n) (eqb y k && c) p in
    let r = both (eqb y k) c q.1 in
    (eqb→eq x n q.0, eqb→eq y k r.0, r.1)

passed : (x : Case) → T (passes x) → Claim x
unfolding passes Claim
passed (checked rs n k c) p =
    let got = table_check (table rs) in
    let cycle = result_unwrap_or got 0 in
    let q = three (number_told (result_err got)) n (row_told (result_err got)) k (eqb cycle c) p in
    (q.0, q.1, eqb→eq cycle c q.2)
passed (cycling rs c) p = eqb→eq (cycle_of (used (table rs))) c p
passed (loading rs m c) p =
    let q = both (eqb (needed (used (table rs))) m) (eqb (cycle_of (used (table rs))) c) p in
    (eqb→eq (needed (used (table rs))) m q.0, eqb→eq (cycle_of (used (table rs))) c q.1)
passed (starting rs xs) p = same_is (first_slots (used (table rs))) xs p
passed (holding rs k xs) p = same_is (places k 0 (reservation_list (used (table rs)))) xs p
passed (reading s n rs) p =
    let got = hands_back (read_as s) in
    let q = three (number_told (result_err (read_as s))) n got.n (length rs) (same_rows got.rows (table rs).rows) p in
    (q.0, q.1, same_rows_lem got.rows (table rs).rows q.2)
passed (writing rs s) p = same_is (file_bytes (table rs)) s p
passed (running rs reps n m log) p =
    let got = from_fresh rs reps in
    let q = three (number_told got.refusal) n got.slots m (same (log_from_fresh rs reps) log) p in
    (q.0, q.1, same_is (log_from_fresh rs reps) log q.2)
passed (moving rs reps k s) p = eqb→eq (first_after rs reps (k - 1)) s p
passed (asking rs q n) p = eqb→eq (number_told (result_err (asked_of (table rs) q))) n p

pub all_passed : (xs : List Case) → All xs → Each xs
unfolding Each
all_passed [] none = tt
all_passed (x ∷ xs) (p then ps) = (passed x p, all_passed xs ps)
