-- The clock goes on by one slot: where no job was short before, none is after.
-- Assumes nothing.
use mathlib.Core.Path.{◌≡◌, refl, sym}
use mathlib.Core.Logic.{◌⊎◌, inl, inr, ⊎_elim}
use mathlib.Core.Bool.{true, false}
use Prim.Native.Nat.{ℕ, suc, ◌≤◌, ◌<◌}
use native.Mathlib.Nat.{eq-or-lt_of_le, le_of_eq}
use native.Mathlib.Omega.{arith}
use lib.Dec.{eqb}
use borrow.Author.Tests.{eqb-true, eqb-false}
use Rattle.rule.specs.Rule.{held, takes, short, Windows, Claims}
use Rattle.rule.proofs.Tests.{split, side}
use Rattle.rule.proofs.Counting.{between_same, between_none}
use Rattle.rule.proofs.Facts.{takes_few, short_not, not_short}
use Rattle.rule.proofs.Holders.{one_holder}
use Rattle.rule.proofs.Monotone.{still_enough}
use Rattle.rule.proofs.Kept.{kept_taken, kept_end, kept_next, kept_next_taken}
use Rattle.rule.proofs.Unit.{held_after}
use Rattle.rule.proofs.Enough.{Enough}

module _ {E : ℕ → ℕ → ℕ} {n : ℕ} (win : Windows E n) where
  -- no row holds slot c, and the later claims are no larger
  pub pass : (K K' : ℕ → ℕ → ℕ) (c L : ℕ) → Claims E K n → ((i : ℕ) → i < n → takes E K i c ≡ false) → ((i s : ℕ) → i < n → c < s → K' i s ≤ K i s)
      → suc c < L → Enough E K n c L → Enough E K' n (suc c) L
  pass K K' c L cl none less lt e = record {
    now = λ i l. still_enough E K K' n (suc c) less i (suc c) l (omega arith) (next i l);
    later = λ i s l u v w. still_enough E K K' n (suc c) less i (suc s) l (omega arith) (e.later i s l (omega arith) v w);
  }
    where
      next : (i : ℕ) → i < n → short E K i (suc c) ≡ false
      next i l =
          ⊎_elim (λ q. e.later i c l (omega arith) lt (sym q))
          (λ u.
          kept_next E K i c (win.inside i c l) (e.now i l) K (λ t _. refl) (win.flat i c (suc c) l (omega arith) u) (none i l)
          (le_of_eq (cl i c (suc c) l (omega arith) u)))
          (eq-or-lt_of_le (win.inside i c l))

  -- row r holds slot c, and the claim of its job falls by one
  pub pass_taken : (K K' : ℕ → ℕ → ℕ) (c L r : ℕ) → Claims E K n → r < n → takes E K r c ≡ true
      → ((i s : ℕ) → i < n → c < s → (i ≡ r → E r c ≤ s) → K' i s ≡ K i s) → ((s : ℕ) → c < s → s < E r c → suc (K' r s) ≡ K r s)
      → suc c < L → Enough E K n c L → Enough E K' n (suc c) L
  pass_taken K K' c L r cl lr tk others one lt e = record {
    now = next;
    later = λ i s l u v w. fresh i s l (omega arith) v w;
  }
    where
      -- the later slots are held as before
      alike : (i t : ℕ) → i ≤ n → c < t → held E K' i t ≡ held E K i t
      alike i t l u = held_after E K K' n r c (λ s a b. win.flat r c s lr (omega arith) b) (λ s a b. cl r c s lr (omega arith) b) tk others one i t l u

      -- and no later claim is larger
      no_more : (i s : ℕ) → i < n → c < s → K' i s ≤ K i s
      no_more i s l u =
          ⊎_elim (λ q. ⊎_elim (λ (v : s < E r c). let e' : i ≡ r = eqb-true i r q in rw e' (omega (arith, one s u v))) (λ v. le_of_eq (others i s l u (λ _. v))) (side s (E r c)))
          (λ q. le_of_eq (others i s l u (λ p. absurd (eqb-false i r q p)))) (split (eqb i r))

      -- where a window begins
      fresh : (i s : ℕ) → i < n → c ≤ s → suc s < L → E i s ≡ suc s → short E K' i (suc s) ≡ false
      fresh i s l u v w =
          not_short E K' i (suc s)
          (omega (
            arith,
            short_not E K i (suc s) (e.later i s l u v w),
            no_more i (suc s) l (omega arith),
            between_same (held E K i) (held E K' i) (suc s) (E i (suc s)) (λ t a b. alike i t (omega arith) (omega arith)),
          ))

      -- where the clock's goes on
      inner : (i : ℕ) → i < n → suc c < E i c → (takes E K i c ≡ true) ⊎ (takes E K i c ≡ false) → short E K' i (suc c) ≡ false
      inner i l u (inl h) =
          let q : i ≡ r = one_holder E K i r c h tk in
          let u' : suc c < E r c = rw q at u in
          rw q
          (kept_next_taken E K r c (win.inside r c lr) (e.now r lr) K' (λ t. alike r t (omega arith)) (win.flat r c (suc c) lr (omega arith) u') tk
          (omega (arith, one (suc c) (omega arith) u', cl r c (suc c) lr (omega arith) u')))
      inner i l u (inr h) =
          kept_next E K i c (win.inside i c l) (e.now i l) K' (λ t. alike i t (omega arith)) (win.flat i c (suc c) l (omega arith) u) h
          (omega (arith, no_more i (suc c) l (omega arith), cl i c (suc c) l (omega arith) u))

      next : (i : ℕ) → i < n → short E K' i (suc c) ≡ false
      next i l = ⊎_elim (λ q. fresh i c l (omega arith) lt (sym q)) (λ u. inner i l u (split (takes E K i c))) (eq-or-lt_of_le (win.inside i c l))

  -- in a window's last slot a row that does not hold it claims nothing
  pub met : (K : ℕ → ℕ → ℕ) (c i : ℕ) → i < n → short E K i c ≡ false → E i c ≡ suc c → takes E K i c ≡ false → K i c ≡ 0
  met K c i l h w no-take = kept_end E K i c (win.inside i c l) h no-take (sym w)

  -- and one that does claims the one slot
  pub met_taken : (K : ℕ → ℕ → ℕ) (c i : ℕ) → i < n → short E K i c ≡ false → E i c ≡ suc c → takes E K i c ≡ true → K i c ≡ 1
  met_taken K c i l h w tk =
      omega (arith, kept_taken E K i c (win.inside i c l) h tk, takes_few E K i c tk, between_none (held E K i) (suc c) (E i c) (omega arith))
