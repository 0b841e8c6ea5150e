-- The clock goes on by one slot, for the claims of a record: where no job was short before, none is after; and but for a done each later slot is held as before.
-- Assumes nothing.
use mathlib.Core.Path.{◌≡◌, sym, ap, ◌∙◌}
use mathlib.Core.Logic.{◌≢◌, ⊎_elim}
use mathlib.Core.Bool.{true, false}
use Prim.Native.Nat.{ℕ, suc, ◌-◌, ◌≤◌, ◌<◌}
use native.Mathlib.Nat.{eq-or-lt_of_le}
use native.Mathlib.Omega.{arith}
use borrow.Author.Tests.{eq-eqb, ne_eqb}
use Rattle.rule.specs.Rule.{takes, holder, claimed, Windows, Claims}
use Rattle.rule.proofs.Tests.{side}
use Rattle.rule.proofs.Facts.{takes_few}
use Rattle.rule.proofs.Unit.{takes_after}
use Rattle.rule.proofs.Claims.{claimed_claims}
use Rattle.rule.proofs.Alike.{first_row_same, holder_alike}
use Rattle.rule.proofs.Enough.{Enough}
use Rattle.rule.proofs.Advance.{pass, pass_taken}

module _ {E : ℕ → ℕ → ℕ} {n : ℕ} (win : Windows E n) (W : ℕ → ℕ → ℕ) where
  -- ---- what a record with the clock c and l left claims, from c on
  module _ (c : ℕ) (l : ℕ → ℕ) (i : ℕ) (row : i < n) where
    -- in the clock's window
    pub claim_now : (s : ℕ) → c ≤ s → s < E i c → claimed E W c l i s ≡ l i
    unfolding claimed
    claim_now s b u = rw (eq-eqb (E i s) (E i c) (win.flat i c s row b u))

    -- in a later one
    pub claim_later : (s : ℕ) → E i c ≤ s → claimed E W c l i s ≡ W i s
    unfolding claimed
    claim_later s b = rw (ne_eqb (E i s) (E i c) (λ e. omega (arith, win.inside i s row)))

  -- ---- one slot
  -- l is what is left at c, m after the slot's unit, l' at c + 1: a window that goes on keeps m, and where one ends the table's claims stand anew
  module _
      (whole : Claims E W n)
      (c : ℕ)
      (l m l' : ℕ → ℕ)
      (goes : (i : ℕ) → i < n → suc c < E i c → l' i ≡ m i)
      (turns : (i : ℕ) → i < n → E i c ≡ suc c → l' i ≡ W i (suc c)) where
    abbrev K : ℕ → ℕ → ℕ
    K = claimed E W c l

    abbrev K' : ℕ → ℕ → ℕ
    K' = claimed E W (suc c) l'

    pub next_now : (i : ℕ) → i < n → (s : ℕ) → c < s → s < E i c → K' i s ≡ m i
    next_now i row s on u =
        let e : E i (suc c) ≡ E i c = win.flat i c (suc c) row (omega arith) (omega arith) in
        claim_now (suc c) l' i row s on (omega arith) ∙ goes i row (omega arith)

    next_later : (i : ℕ) → i < n → (s : ℕ) → c < s → E i c ≤ s → K' i s ≡ W i s
    next_later i row s on b =
        ⊎_elim (λ (e : suc c ≡ E i c).
        ⊎_elim (λ u. claim_now (suc c) l' i row s on u ∙ turns i row (sym e) ∙ sym (whole i (suc c) s row on u)) (λ u. claim_later (suc c) l' i row s u) (side s (E i (suc c))))
        (λ (u : suc c < E i c). claim_later (suc c) l' i row s (omega (arith, win.flat i c (suc c) row (omega arith) u))) (eq-or-lt_of_le (win.inside i c row))

    -- no row held the slot, and no job has more left: no job is short after it
    pub quiet : (L : ℕ) → ((i : ℕ) → i < n → takes E K i c ≡ false) → ((i : ℕ) → i < n → m i ≤ l i) → suc c < L → Enough E K n c L → Enough E K' n (suc c) L
    quiet L none less lt e = pass win K K' c L (claimed_claims win whole c l) none lower lt e
      where
        lower : (i s : ℕ) → i < n → c < s → K' i s ≤ K i s
        lower i s row u =
            ⊎_elim (λ v. omega (arith, next_now i row s u v, claim_now c l i row s (omega arith) v, less i row))
            (λ v. omega (arith, next_later i row s u v, claim_later c l i row s v)) (side s (E i c))

    -- a row with as much left claims as before, and each row does after its window
    pub same_claim : (i s : ℕ) → i < n → c < s → (s < E i c → m i ≡ l i) → K' i s ≡ K i s
    same_claim i s row u h =
        ⊎_elim (λ v. next_now i row s u v ∙ h v ∙ sym (claim_now c l i row s (omega arith) v)) (λ v. next_later i row s u v ∙ sym (claim_later c l i row s v)) (side s (E i c))

    -- where every job has as much left, each later slot is held as before
    module _ (same : (i : ℕ) → i < n → m i ≡ l i) where
      agree : (i s : ℕ) → i < n → c < s → K' i s ≡ K i s
      agree i s row u = same_claim i s row u (λ v. same i row)

      pub keeps_holder_quiet : (s : ℕ) → c < s → holder E K' n s ≡ holder E K n s
      keeps_holder_quiet = holder_alike E K K' n (suc c) agree

    -- row r held the slot, and has one unit less left: each later slot is held as before
    module _ (r : ℕ) (lr : r < n) (tk : takes E K r c ≡ true) (less : m r ≡ l r - 1) (same : (i : ℕ) → i < n → i ≢ r → m i ≡ l i) where
      others : (i s : ℕ) → i < n → c < s → (i ≡ r → E r c ≤ s) → K' i s ≡ K i s
      others i s row u h = same_claim i s row u (λ v. same i row (λ p. omega (arith, h p, ap (λ (k : ℕ). E k c) p)))

      one : (s : ℕ) → c < s → s < E r c → suc (K' r s) ≡ K r s
      one s u v =
          omega (
            arith,
            next_now r lr s u v,
            claim_now c l r lr s (omega arith) v,
            less,
            takes_few E K r c tk,
            claim_now c l r lr c (omega arith) (win.inside r c lr),
          )

      keeps_ran : (i s : ℕ) → i < n → c < s → takes E K' i s ≡ takes E K i s
      keeps_ran =
          takes_after E K K' n r c (λ s u v. win.flat r c s lr (omega arith) v) (λ s u v. claimed_claims win whole c l r c s lr (omega arith) v) tk others one

      pub keeps_holder_ran : (s : ℕ) → c < s → holder E K' n s ≡ holder E K n s
      unfolding holder
      keeps_holder_ran s u = first_row_same (λ i. takes E K' i s) (λ i. takes E K i s) n (λ i row. keeps_ran i s row u)

    -- row r held the slot, and has one unit less left: no job is short after it
    pub ran : (L r : ℕ) → r < n → takes E K r c ≡ true → m r ≡ l r - 1 → ((i : ℕ) → i < n → i ≢ r → m i ≡ l i) → suc c < L → Enough E K n c L → Enough E K' n (suc c) L
    ran L r lr tk less same lt e =
        pass_taken win K K' c L r (claimed_claims win whole c l) lr tk (others r lr tk less same) (one r lr tk less same) lt e
