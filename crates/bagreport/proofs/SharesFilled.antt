-- The sixteen places' shares, each made of its counts.
-- Assumes nothing.
use Rattle.std.specs.Prelude.{None}
use mathlib.Core.Path.{◌≡◌, refl, sym, ap, ◌∙◌, subst}
use mathlib.Core.Logic.{⊎_elim}
use mathlib.Core.List.{List, ◌++◌}
use Prim.Native.Nat.{ℕ, zero, suc, ◌+◌, ◌-◌, ◌^◌, ◌≤◌, ◌<◌}
use native.Mathlib.Omega.{arith}
use lib.ListN.{length, get_or, replicate, length-append, length-replicate, get_or-replicate, get_or-append}
use lib.Seq.{ext_get_or, get_or-append-add}
use Rattle.std.specs.Array.{list_steps}
use Rattle.std.proofs.lemmas.List.{get_or_default}
use Rattle.std.proofs.lemmas.Iterator.{YieldsList}
use Rattle.std.proofs.lemmas.Iterator.Consumers.{YieldsList-from_shown}
use Rattle.table.specs.declared.Table.{Table}
use Rattle.table.specs.Rows.{used}
use Rattle.rule.proofs.Tests.{side}
use Rattle.reserve.specs.Check.{table_refusal}
use Rattle.slots.specs.History.{reported}
use Rattle.slots.proofs.SoundRecord.{table_usable}
use Rattle.share.specs.declared.Share.{Share}
use Rattle.share.specs.Share.{share_of}
use Rattle.dosing.specs.Jobs.{any}
use Rattle.dosing.proofs.Due.{due_few, due_divisor}
use Rattle.bagreport.specs.declared.due.Counts.{Counts}
use Rattle.bagreport.specs.Answers.{works_of, no_share, row_share, row_shares, sixteen_shares}
use Rattle.bagreport.specs.Turns.{no_counts, counts_to, Counted}

-- ---- the list of the promise, place by place
module _ (t : Table) (reps : List ℕ) where
  pub shares_length : (k n : ℕ) → length (row_shares t reps k n) ≡ n
  unfolding row_shares
  shares_length k zero = refl
  shares_length k (suc n) = ap suc (shares_length (suc k) n)

  shares_at : (k n i : ℕ) → i < n → get_or (row_shares t reps k n) i no_share ≡ row_share t reps (k + i)
  unfolding row_shares
  shares_at k zero i l = absurd (omega arith)
  shares_at k (suc n) zero l = let e : k ≡ k + 0 = omega arith in ap (row_share t reps) e
  shares_at k (suc n) (suc i) l = let e : suc k + i ≡ k + suc i = omega arith in shares_at (suc k) n i (omega arith) ∙ ap (row_share t reps) e

  abbrev front : List Share
  front = row_shares t reps 0 (length (used t))

  abbrev back : List Share
  back = replicate (16 - length (used t)) (share_of 0 0)

  front_long : length front ≡ length (used t)
  front_long = shares_length 0 (length (used t))

  all_long : length (used t) ≤ 16 → length (front ++ back) ≡ 16
  all_long few = omega (arith, front_long, length-append front back, length-replicate (16 - length (used t)) (share_of 0 0))

  at_row : (k : ℕ) → k < length (used t) → get_or (front ++ back) k no_share ≡ row_share t reps k
  at_row k l = let e : 0 + k ≡ k = omega arith in get_or-append front back no_share k (omega (arith, front_long)) ∙ shares_at 0 (length (used t)) k l ∙ ap (row_share t reps) e

  at_past : (k : ℕ) → length (used t) ≤ k → k < 16 → get_or (front ++ back) k no_share ≡ share_of 0 0
  at_past k l u =
      let e : k ≡ length front + (k - length (used t)) = omega (arith, front_long) in
      ap (λ (j : ℕ). get_or (front ++ back) j no_share) e
      ∙ get_or-append-add front back (k - length (used t)) no_share
      ∙ get_or-replicate (16 - length (used t)) (k - length (used t)) (share_of 0 0) no_share (omega arith)

  pub sixteen_long : length (used t) ≤ 16 → length (sixteen_shares t reps) ≡ 16
  unfolding sixteen_shares
  sixteen_long few = all_long few

  pub sixteen_row : (k : ℕ) → k < length (used t) → get_or (sixteen_shares t reps) k no_share ≡ row_share t reps k
  unfolding sixteen_shares
  sixteen_row k l = at_row k l

  pub sixteen_past : (k : ℕ) → length (used t) ≤ k → k < 16 → get_or (sixteen_shares t reps) k no_share ≡ share_of 0 0
  unfolding sixteen_shares
  sixteen_past k l u = at_past k l u

  pub shares_list : (xs : List Share) → length xs ≡ 16 → length (used t) ≤ 16 → ((k : ℕ) → k < length (used t) → get_or xs k no_share ≡ row_share t reps k)
      → ((k : ℕ) → length (used t) ≤ k → k < 16 → get_or xs k no_share ≡ share_of 0 0) → xs ≡ sixteen_shares t reps
  unfolding sixteen_shares
  shares_list xs size few rows past =
      ext_get_or no_share xs (front ++ back) (omega (arith, size, all_long few))
      (λ k l. ⊎_elim (λ (u : k < length (used t)). rows k u ∙ sym (at_row k u)) (λ (u : length (used t) ≤ k). past k u (omega arith) ∙ sym (at_past k u (omega arith))) (side k (length (used t))))

-- ---- the counts of one place
-- the share by its counts
abbrev pub place_share : List Counts → ℕ → Share
place_share cs k = share_of (get_or cs k no_counts).done ((get_or cs k no_counts).all - (get_or cs k no_counts).fell)

module _ {t : Table} {reps : List ℕ} {cs : List Counts} (g : Counted t reps (length reps) cs) where
  row_counts : (k : ℕ) → k < length (used t) → place_share cs k ≡ row_share t reps k
  unfolding row_share counts_to
  row_counts k l = ap (λ (c : Counts). share_of c.done (c.all - c.fell)) (g.each k l)

  past_counts : (k : ℕ) → length (used t) ≤ k → place_share cs k ≡ share_of 0 0
  past_counts k l = ap (λ (c : Counts). share_of c.done (c.all - c.fell)) (g.past k l)

  -- no more are done or fell than there are, and no more than there are slots
  counts_divisor : (k : ℕ) → ((counts_to t reps k (length reps)).fell + (counts_to t reps k (length reps)).done ≤ (counts_to t reps k (length reps)).all) × ((counts_to t reps k (length reps)).all ≤ length reps)
  unfolding counts_to
  counts_divisor k = (due_divisor (used t) (works_of t reps) (reported reps) k 0 (length reps), due_few (used t) (works_of t reps) (reported reps) k any 0 (length reps))

  here : (P : Counts → Type 0) (k : ℕ) → P (counts_to t reps k (length reps)) → P no_counts → P (get_or cs k no_counts)
  here P k row none =
      ⊎_elim (λ (u : k < length (used t)). subst P (sym (g.each k u)) row) (λ (u : length (used t) ≤ k). subst P (sym (g.past k u)) none) (side k (length (used t)))

  -- as `row_share` asks
  pub place_fits : length reps < 2 ^ 32 → (c : Counts) (k : ℕ) → k < length cs → c ≡ get_or cs k c → (c.fell + c.done ≤ c.all) × (c.all < 2 ^ 32)
  place_fits f c k l e =
      let n = counts_divisor k in
      rw (e ∙ get_or_default cs k c no_counts l) (here (λ c. (c.fell + c.done ≤ c.all) × (c.all < 2 ^ 32)) k (n.0, omega (arith, f, n.1)) (omega arith, omega arith))

  -- ---- one share made of each place's counts
  pub each_place : YieldsList list_steps (λ c. c) cs cs
  each_place = YieldsList-from_shown list_steps (λ c. c) (λ xs. xs) (λ xs ys e. ap length e) (λ xs c ys e. e) cs

  pub shares_made : table_refusal t ≡ None → (xs : List Share) → length xs ≡ 16 → ((k : ℕ) → k < 16 → get_or xs k no_share ≡ place_share cs k) → xs ≡ sixteen_shares t reps
  shares_made z xs size each =
      let few = (table_usable t z).few in
      shares_list t reps xs size few (λ k u. each k (omega (arith, few)) ∙ row_counts k u) (λ k l u. each k u ∙ past_counts k l)
