-- One slot's turn of the sweep, row by row: what each row finds and leaves is what the rule says.
-- Assumes nothing.
use mathlib.Core.Path.{◌≡◌, refl, sym, ap, ◌∙◌}
use mathlib.Core.Logic.{⊎_elim}
use mathlib.Core.Bool.{Bool, true, cond, ◌&&◌}
use mathlib.Core.List.{List}
use Prim.Native.Nat.{ℕ, suc, ◌+◌, ◌-◌, ◌≤◌, ◌<◌}
use native.Mathlib.Nat.{eq-or-lt_of_le}
use native.Mathlib.Numerals.{add-one}
use native.Mathlib.Omega.{arith}
use lib.Dec.{ltb, eqb}
use lib.ListN.{get_or, set, length}
use lib.Seq.{get_or-set_same, get_or-set_other}
use borrow.Author.Count.{below_none, below_more}
use borrow.Author.Tests.{eq-eqb, ne_eqb, lt-ltb, ltb-true}
use Rattle.rule.specs.Slots.{unit, or_row, first_row}
use Rattle.rule.specs.Rule.{held, takes, holder, short, begins, Windows, Claims}
use Rattle.rule.specs.Sweep.{rem}
use Rattle.rule.proofs.Tests.{split, side, never, both_ways}
use Rattle.rule.proofs.Facts.{from, leaves_held, short_few, short_not}
use Rattle.rule.proofs.FirstRow.{row_found, first_row_suc}
use Rattle.rule.proofs.Holders.{holder_free, free_holder, holder_suc}
use Rattle.rule.proofs.Remainders.{met, unmet, taken_left, rem_step, rem_last, rem_short}
use Rattle.reserve.specs.Turns.{Coming, Turned}

-- ---- one row at one slot
module _ {E K : ℕ → ℕ → ℕ} {n : ℕ} (win : Windows E n) (cl : Claims E K n) (i s : ℕ) (row : i < n) where
  -- what the row has left as the sweep comes to the slot
  arrives : (x : ℕ) → (suc s < E i s → x ≡ rem E K i (suc s) - unit (takes E K i (suc s))) → cond (eqb (E i s) (suc s)) (K i s) x ≡ rem E K i s
  arrives x h =
      ⊎_elim (λ (e : suc s ≡ E i s). rw (eq-eqb (E i s) (suc s) (sym e)) (sym (rem_last E K i s (sym e))))
      (λ (u : suc s < E i s).
      rw (ne_eqb (E i s) (suc s) (λ e. omega arith))
      (h u ∙ sym (rem_step E K i s u (win.flat i s (suc s) row (omega arith) u) (cl i s (suc s) row (omega arith) u))))
      (eq-or-lt_of_le (win.inside i s row))

  -- `found` is the slot's holder among the rows above
  module _ (found : ℕ) (e : found ≡ holder E K i s) where
    taken_above : held E K i s ≡ true → 0 < found
    taken_above h =
        ⊎_elim (λ (z : 0 < found). z) (λ (z : found ≤ 0). let q : found ≡ 0 = omega arith in never h (free_holder E K i s (sym e ∙ q))) (side 0 found)

    spends : cond (eqb found 0) (rem E K i s - 1) (rem E K i s) ≡ rem E K i s - unit (takes E K i s)
    spends =
        ⊎_elim (λ h. rw (ne_eqb found 0 (λ z. omega (arith, taken_above h))) (omega (arith, ap unit (leaves_held E K i s h))))
        (λ h.
        rw (eq-eqb found 0 (e ∙ holder_free E K i s h))
        (⊎_elim (λ (l : 0 < rem E K i s). omega (arith, ap unit (unmet E K i s h l)))
        (λ (l : rem E K i s ≤ 0). omega (arith, ap unit (met E K i s (omega arith)))) (side 0 (rem E K i s))))
        (split (held E K i s))

    holds_it : (k : ℕ) → or_row found (ltb 0 (rem E K i s)) k ≡ or_row found (takes E K i s) k
    holds_it k =
        ⊎_elim (λ h. row_found found k (ltb 0 (rem E K i s)) (taken_above h) ∙ sym (row_found found k (takes E K i s) (taken_above h)))
        (λ h.
        ap (λ (b : Bool). or_row found b k)
        (both_ways (ltb 0 (rem E K i s)) (takes E K i s) (λ l. unmet E K i s h (ltb-true 0 (rem E K i s) l)) (λ t. lt-ltb 0 (rem E K i s) (taken_left E K i s t))))
        (split (held E K i s))

  -- what is left once the slot is passed is what the job is short of there
  is_short : ltb 0 (rem E K i s - unit (takes E K i s)) ≡ short E K i s
  is_short =
      both_ways (ltb 0 (rem E K i s - unit (takes E K i s))) (short E K i s)
      (λ l. ⊎_elim (λ h. h) (λ h. absurd (omega (arith, ltb-true 0 (rem E K i s - unit (takes E K i s)) l, left, short_not E K i s h))) (split (short E K i s)))
      (λ h. lt-ltb 0 (rem E K i s - unit (takes E K i s)) (omega (arith, left, short_few E K i s h)))
    where
      left : K i s - from E K i s ≡ rem E K i s - unit (takes E K i s)
      left = rem_short E K i s (win.inside i s row)

-- ---- the rows one after another
pub turn_start : (E K : ℕ → ℕ → ℕ) (c s : ℕ) (xs : List ℕ) → Turned E K c 0 s xs 0 0
unfolding holder first_row
turn_start E K c s xs = record { rests = below_none (λ i. get_or xs i 0 ≡ rem E K i s - unit (takes E K i s)); holds = refl; lowest = refl }

pub turn_step : {E K : ℕ → ℕ → ℕ} {n : ℕ} → Windows E n → Claims E K n → {c s : ℕ} {xs : List ℕ} {row low i : ℕ} → Turned E K c i s xs row low
    → i < n → i < length xs → (xs₀ : List ℕ) → Coming E K n s xs₀
    → (x y row' low' : ℕ) (b : Bool)
    → x ≡ cond (eqb (E i s) (suc s)) (K i s) (get_or xs₀ i 0)
    → y ≡ cond (eqb row 0) (x - 1) x
    → row' ≡ or_row row (ltb 0 x) (i + 1)
    → b ≡ (begins E K c i s && ltb 0 y)
    → low' ≡ or_row low b (i + 1)
    → Turned E K c (i + 1) s (set xs i y) row' low'
turn_step {E} {K} {n} win cl {c} {s} {xs} {row} {low} {i} g l room xs₀ coming x y row' low' b ex ey er eb el =
    let fx : x ≡ rem E K i s = ex ∙ arrives win cl i s l (get_or xs₀ i 0) (coming i l) in
    let fy : y ≡ rem E K i s - unit (takes E K i s) = ey ∙ rw fx (spends win cl i s l row g.holds) in
    let fr : row' ≡ or_row row (takes E K i s) (i + 1) = er ∙ rw fx (holds_it win cl i s l row g.holds (i + 1)) in
    let fb : b ≡ (begins E K c i s && short E K i s) = eb ∙ rw fy (ap (λ (z : Bool). begins E K c i s && z) (is_short win cl i s l)) in
    record {
      rests =
          below_more (λ j. get_or (set xs i y) j 0 ≡ rem E K j s - unit (takes E K j s)) i
          (λ j u. get_or-set_other xs i j y 0 (λ q. omega arith) ∙ g.rests j u) (get_or-set_same xs i y 0 room ∙ fy);
      holds = fr ∙ rw (g.holds, add-one) (sym (holder_suc E K i s));
      lowest = el ∙ rw (g.lowest, fb, add-one) (sym (first_row_suc (λ j. begins E K c j s && short E K j s) i));
    }
