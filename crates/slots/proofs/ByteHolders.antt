-- A row that reserves by the bytes of the buffer takes the slots that the rule says, whether the bytes are those of the rows above it or already those of all rows.
-- Assumes nothing.
use mathlib.Core.Path.{◌≡◌, refl, sym, ap, ◌∙◌}
use mathlib.Core.Logic.{◌⊎◌, inl, inr, ⊎_elim}
use mathlib.Core.Bool.{Bool, true, false, not, cond, ◌&&◌, ◌||◌}
use Prim.Native.Nat.{ℕ, zero, suc, ◌+◌, ◌-◌, ◌≤◌, ◌<◌}
use native.Mathlib.Nat.{eq-or-lt_of_le}
use native.Mathlib.Omega.{arith}
use lib.Dec.{ltb, eqb}
use borrow.Author.Tests.{ltb-true, lt-ltb, eq-eqb, ne_eqb}
use Rattle.rule.specs.Slots.{or_row}
use Rattle.rule.specs.Rule.{between, picks, held, takes, holder, Windows, Claims}
use Rattle.rule.proofs.Tests.{split, side, both_ways, never, false_if}
use Rattle.rule.proofs.Counting.{gap, between_step, between_none}
use Rattle.rule.proofs.Facts.{takes_is, takes_free, held_taken, leaves_many}
use Rattle.rule.proofs.FirstRow.{row_found}
use Rattle.rule.proofs.Holders.{held_down, held_on, holder_is, is_holder, holder_free, free_holder, holder_suc}

-- the byte b is another row's
abbrev other : ℕ → ℕ → Bool
other row b = not (eqb b 0 || eqb b row)

other_not : (row b : ℕ) → (b ≡ 0) ⊎ (b ≡ row) → other row b ≡ false
other_not row b (inl e) = simp (eq-eqb b 0 e)
other_not row b (inr e) = or_right_not (eqb b 0) (eqb b row) (eq-eqb b row e)
  where
    or_right_not : (x y : Bool) → y ≡ true → not (x || y) ≡ false
    or_right_not true y h = refl
    or_right_not false y h = ap not h

other_is : (row b : ℕ) → (b ≡ 0 → ⊥) → (b ≡ row → ⊥) → other row b ≡ true
other_is row b h k = simp (ne_eqb b 0 h, ne_eqb b row k)

-- a row that does not take the slot leaves what was found before
pub row_passed : (a k : ℕ) (x : Bool) → x ≡ false → or_row a x k ≡ a
unfolding or_row
row_passed zero k x h = rw h
row_passed (suc a) k x h = row_found (suc a) k x (omega arith)

module _ (E K : ℕ → ℕ → ℕ) (i : ℕ) where
  -- H tells of slot t whether the rows above row i hold it, or a lower row has it: then row i's claim is met
  abbrev pub Tells : (ℕ → Bool) → ℕ → Type 0
  Tells H t = (H t ≡ held E K i t) ⊎ ((H t ≡ true) × (held E K i t ≡ false) × (takes E K i t ≡ false))

  -- ---- what a byte tells: that of the rows above
  pub byte_first : (t b : ℕ) → b ≡ holder E K i t → other (suc i) b ≡ held E K i t
  byte_first t b e =
      ⊎_elim (λ h. go h b e) (λ h. other_not (suc i) b (inl (e ∙ holder_free E K i t h)) ∙ sym h) (split (held E K i t))
    where
      go : held E K i t ≡ true → (b : ℕ) → b ≡ holder E K i t → other (suc i) b ≡ held E K i t
      go h zero q = never h (free_holder E K i t (sym q))
      go h (suc j) q =
          other_is (suc i) (suc j) (λ z. absurd (omega arith)) (λ z. omega (arith, (is_holder E K i j t (sym q)).0)) ∙ sym h

  -- and that of all n
  pub byte_all : (n t b : ℕ) → i < n → b ≡ holder E K n t
      → (other (suc i) b ≡ held E K i t) ⊎ ((other (suc i) b ≡ true) × (held E K i t ≡ false) × (takes E K i t ≡ false))
  byte_all n t zero row e = inl (sym (held_down E K i n t (omega arith) (free_holder E K n t (sym e))))
  byte_all n t (suc j) row e =
      let taken : takes E K j t ≡ true = (is_holder E K n j t (sym e)).1 in
      ⊎_elim
      (λ (l : j < i). inl (other_is (suc i) (suc j) (λ z. omega arith) (λ z. omega arith) ∙ sym (held_on E K i j t l taken)))
      (λ (l : i ≤ j).
      ⊎_elim
      (λ (q : i ≡ j). inl (other_not (suc i) (suc j) (inr (ap suc (sym q))) ∙ sym (takes_free E K i t (rw q taken))))
      (λ (u : i < j).
      let free : held E K (suc i) t ≡ false = held_down E K (suc i) j t u (takes_free E K j t taken) in
      inr (
        other_is (suc i) (suc j) (λ z. omega arith) (λ z. omega arith),
        held_down E K i j t l (takes_free E K j t taken),
        false_if (takes E K i t) (λ k. never (held_taken E K i t k) free),
      ))
      (eq-or-lt_of_le l))
      (side j i)

  -- ---- the byte that the row leaves
  pub taken_first : (t b : ℕ) → b ≡ holder E K i t → cond (takes E K i t) (suc i) b ≡ holder E K (suc i) t
  taken_first t b e =
      ⊎_elim (λ h. rw h (sym (holder_is E K (suc i) i t (omega arith) h))) (λ h. rw h (e ∙ sym (holder_suc E K i t ∙ row_passed (holder E K i t) (suc i) (takes E K i t) h))) (split (takes E K i t))

  pub taken_all : (n t b : ℕ) → i < n → b ≡ holder E K n t → cond (takes E K i t) (suc i) b ≡ b
  taken_all n t b row e = ⊎_elim (λ h. rw h (sym (e ∙ holder_is E K n i t row h))) (λ h. rw h) (split (takes E K i t))

-- ---- a row takes the same slots by such a test
module _ {E K : ℕ → ℕ → ℕ} {n : ℕ} (win : Windows E n) (cl : Claims E K n) (i s : ℕ) (row : i < n) (H : ℕ → Bool) (tells : (t : ℕ) → s ≤ t → t < E i s → Tells E K i H t) where
  -- as much is left of the claim
  as_much : (m t : ℕ) → E i s ≡ t + m → s ≤ t → K i s - between H t (E i s) ≡ K i s - between (held E K i) t (E i s)
  as_much zero t e l = omega (arith, between_none H t (E i s) (omega arith), between_none (held E K i) t (E i s) (omega arith))
  as_much (suc m) t e l =
      let u : t < E i s = omega arith in
      let rest = as_much m (suc t) (omega arith) (omega arith) in
      let a = between_step H t (E i s) u in
      let b = between_step (held E K i) t (E i s) u in
      ⊎_elim (λ (q : H t ≡ held E K i t). omega (arith, rest, a, b, ap gap q))
      (λ (q : (H t ≡ true) × (held E K i t ≡ false) × (takes E K i t ≡ false)).
      let many : K i s ≤ between (held E K i) (suc t) (E i s) = rw (win.flat i s t row l u, cl i s t row l u) at (leaves_many E K i t q.2 q.1) in
      omega (arith, rest, a, b, ap gap q.0, ap gap q.1, many))
      (tells t l u)

  pub picks_alike : picks H (E i s) (K i s) s ≡ takes E K i s
  picks_alike =
      let k = K i s in
      let x = between H (suc s) (E i s) in
      let y = between (held E K i) (suc s) (E i s) in
      let here : s < E i s = win.inside i s row in
      let left : k - x ≡ k - y = as_much (E i s - suc s) (suc s) (omega arith) (omega arith) in
      let few : ltb x k ≡ ltb y k =
      both_ways (ltb x k) (ltb y k) (λ h. lt-ltb y k (omega (arith, ltb-true x k h))) (λ h. lt-ltb x k (omega (arith, ltb-true y k h))) in
      ⊎_elim (λ (q : H s ≡ held E K i s). ap (λ (b : Bool). not b && ltb x k) q ∙ ap (λ (b : Bool). not (held E K i s) && b) few ∙ sym (takes_is E K i s))
      (λ (q : (H s ≡ true) × (held E K i s ≡ false) × (takes E K i s ≡ false)). ap (λ (b : Bool). not b && ltb x k) q.0 ∙ sym q.2)
      (tells s (omega arith) here)
