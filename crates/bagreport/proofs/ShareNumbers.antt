-- Every share of a report is a number, refused or not: a caller may ask for its bits.
-- Assumes nothing.
use mathlib.Core.Path.{◌≡◌, sym, subst}
use mathlib.Core.Bool.{Bool, true, false, not, cond}
use mathlib.Core.List.{List, [], ◌∷◌, ◌++◌}
use Prim.Native.Nat.{ℕ, zero, suc, ◌-◌, ◌≤◌, ◌<◌}
use native.Mathlib.Omega.{arith}
use lib.Dec.{T}
use lib.Ieee.{is_nan}
use lib.ListN.{length, get_or, replicate, length-append, length-replicate}
use Rattle.refusal.specs.Order.{accepted}
use Rattle.table.specs.declared.Table.{Table}
use Rattle.table.specs.Rows.{used}
use Rattle.share.specs.declared.Share.{Share}
use Rattle.share.specs.Share.{share_number, share_of}
use Rattle.share.proofs.Quotient.{share_number_lem}
use Rattle.bagreport.specs.declared.BagReport.{BagReport}
use Rattle.bagreport.specs.Answers.{row_share, row_shares, sixteen_shares, no_share, bag_refusal, report_of}
use Rattle.bagreport.proofs.SharesFilled.{shares_length}

abbrev Number : Share → Type 0
Number x = T (not (is_nan x.share))

-- place by place, whatever stands for a place past the list
abbrev Numbers : List Share → Type 0
Numbers xs = (i : ℕ) → i < length xs → (none : Share) → Number (get_or xs i none)

-- ---- one share
share_of_lem : (done of : ℕ) → Number (share_of done of)
unfolding share_of
share_of_lem = share_number_lem

-- 0 / 1, as without a divisor
no_share_lem : Number no_share
unfolding share_number
no_share_lem = share_number_lem 0 0

row_share_lem : (t : Table) (reps : List ℕ) (k : ℕ) → Number (row_share t reps k)
unfolding row_share
row_share_lem t reps k = share_of_lem _ _

-- ---- lists of them
row_shares_lem : (t : Table) (reps : List ℕ) (k n : ℕ) → Numbers (row_shares t reps k n)
unfolding row_shares
row_shares_lem t reps k zero i l none = absurd (omega arith)
row_shares_lem t reps k (suc n) zero l none = row_share_lem t reps k
row_shares_lem t reps k (suc n) (suc i) l none = row_shares_lem t reps (suc k) n i (omega arith) none

alike : (n : ℕ) (x : Share) → Number x → Numbers (replicate n x)
alike zero x h i l none = absurd (omega arith)
alike (suc n) x h zero l none = h
alike (suc n) x h (suc i) l none = alike n x h i (omega arith) none

joined : (xs ys : List Share) → Numbers xs → Numbers ys → Numbers (xs ++ ys)
joined [] ys f g i l none = g i l none
joined (x ∷ xs) ys f g zero l none = f 0 (omega arith) none
joined (x ∷ xs) ys f g (suc i) l none = joined xs ys (λ j u. f (suc j) (omega arith)) g i (omega arith) none

-- ---- the report's sixteen places
module _ (t : Table) (reps : List ℕ) where
  sixteen_numbers : Numbers (sixteen_shares t reps)
  unfolding sixteen_shares
  sixteen_numbers = joined (row_shares t reps 0 (length (used t))) (replicate (16 - length (used t)) (share_of 0 0)) (row_shares_lem t reps 0 (length (used t))) (alike (16 - length (used t)) (share_of 0 0) (share_of_lem 0 0))

  sixteen_long : 16 ≤ length (sixteen_shares t reps)
  unfolding sixteen_shares
  sixteen_long =
      let front : List Share = row_shares t reps 0 (length (used t)) in
      let back : List Share = replicate (16 - length (used t)) (share_of 0 0) in
      omega (arith, length-append front back, shares_length t reps 0 (length (used t)), length-replicate (16 - length (used t)) (share_of 0 0))

  either_way : (b : Bool) (i : ℕ) → i < 16 → (none : Share) → Number (get_or (cond b (sixteen_shares t reps) (replicate 16 no_share)) i none)
  either_way true i l none = sixteen_numbers i (omega (arith, sixteen_long)) none
  either_way false i l none = alike 16 no_share no_share_lem i l none

  -- as a caller of `report` has it before `f64::to_bits`
  pub report_numbers :
      (row : ℕ) (spans old : List ℕ) (r : BagReport) → r ≡ report_of t reps row spans old → (i : ℕ) → i < 16 → (none : Share) → T (not (is_nan (get_or r.shares i none).share))
  unfolding report_of
  report_numbers row spans old r e i l none =
      subst (λ (x : BagReport). T (not (is_nan (get_or x.shares i none).share))) (sym e) (either_way (accepted (bag_refusal t reps row spans old)) i l none)
