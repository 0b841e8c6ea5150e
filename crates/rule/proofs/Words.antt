-- The rule is document 01's words: what it reserves follows them wherever no job is short, and whatever follows them is what it reserves.
-- Assumes nothing.
use mathlib.Core.Path.{◌≡◌, refl, sym, ap, ◌∙◌}
use mathlib.Core.Logic.{⊎_elim}
use mathlib.Core.Bool.{Bool, true, false, not, ◌||◌}
use Prim.Native.Nat.{ℕ, zero, suc, ◌+◌, ◌-◌, ◌≤◌, ◌<◌, min}
use native.Mathlib.Omega.{arith}
use borrow.Author.Tests.{not-true}
use Rattle.rule.specs.Slots.{unit, within}
use Rattle.rule.specs.Rule.{between, picks, held, takes, short, begins, lacks, Windows, Claims}
use Rattle.rule.specs.Words.{above, Reserves, Follows}
use Rattle.rule.proofs.Tests.{split, side, never, false_if, both_ways}
use Rattle.rule.proofs.Counting.{gap, within_step, within_none, within_less, within_same, within_more, within_skip, between_step, between_none, between_same, between_more}
use Rattle.rule.proofs.Facts.{after, held_none, held_is, takes_is, takes_free, takes_few, takes_if, leaves_many, short_not, not_short, picks_free, picks_few, picks_if}
use Rattle.rule.proofs.Lacks.{begun, enough, if_enough}

-- ---- the rule's own assignment
pub above_takes : (E K : ℕ → ℕ → ℕ) (i s : ℕ) → above (takes E K) i s ≡ held E K i s
unfolding above
above_takes E K zero s = sym (held_none E K s)
above_takes E K (suc i) s = ap (λ (b : Bool). b || takes E K i s) (above_takes E K i s) ∙ sym (held_is E K i s)

module _ {E : ℕ → ℕ → ℕ} (K : ℕ → ℕ → ℕ) {n : ℕ} (win : Windows E n) (cl : Claims E K n) (i w : ℕ) (row : i < n) where
  -- a free slot after one that the row holds is held too
  pub latest : (s t : ℕ) → s < t → t < E i s → takes E K i s ≡ true → held E K i t ≡ false → takes E K i t ≡ true
  latest s t l u tk fr =
      let e : E i t ≡ E i s = win.flat i s t row (omega arith) u in
      let k : K i t ≡ K i s = cl i s t row (omega arith) u in
      takes_if E K i t fr (rw e (omega (arith, between_more (held E K i) (suc s) t (E i s) l u fr, takes_few E K i s tk)))

  exact_from : (m s : ℕ) → w ≤ s → s + m ≡ E i w → within (takes E K i) s (E i w) ≡ min (K i w) (between (held E K i) s (E i w))
  exact_from zero s l e = omega (arith, within_none (takes E K i) s (E i w) (omega arith), between_none (held E K i) s (E i w) (omega arith))
  exact_from (suc m) s l e =
      let more : within (takes E K i) (suc s) (E i w) ≡ min (K i w) (between (held E K i) (suc s) (E i w)) = exact_from m (suc s) (omega arith) (omega arith) in
      let a : within (takes E K i) s (E i w) ≡ unit (takes E K i s) + within (takes E K i) (suc s) (E i w) = within_step (takes E K i) s (E i w) (omega arith) in
      let b : between (held E K i) s (E i w) ≡ gap (held E K i s) + between (held E K i) (suc s) (E i w) = between_step (held E K i) s (E i w) (omega arith) in
      let f : E i s ≡ E i w = win.flat i w s row l (omega arith) in
      let k : K i s ≡ K i w = cl i w s row l (omega arith) in
      let d : after E K i s ≡ between (held E K i) (suc s) (E i w) = ap (between (held E K i) (suc s)) f in
      ⊎_elim (λ t. omega (arith, ap unit t, ap gap (takes_free E K i s t), takes_few E K i s t))
      (λ t. ⊎_elim (λ h. omega (arith, ap unit t, ap gap h)) (λ h. omega (arith, ap unit t, ap gap h, leaves_many E K i s t h)) (split (held E K i s)))
      (split (takes E K i s))

  -- a job that isn't short holds exactly its claim
  pub exact : short E K i w ≡ false → within (takes E K i) w (E i w) ≡ K i w
  exact h = omega (arith, exact_from (E i w - w) w (omega arith) (omega (arith, win.inside i w row)), short_not E K i w h)

  pub reserves : short E K i w ≡ false → Reserves (above (takes E K) i) (takes E K i) w (E i w) (K i w)
  reserves h = record {
    exactly = exact h;
    free = λ s l u t. above_takes E K i s ∙ takes_free E K i s t;
    latest = λ s t l u v tk fr. latest s t u (rw (win.flat i w s row l (omega arith)) v) tk (sym (above_takes E K i t) ∙ fr);
  }

-- ---- the words look at a window's slots alone
pub above_same : (A B : ℕ → ℕ → Bool) (s i : ℕ) → ((j : ℕ) → j < i → A j s ≡ B j s) → above A i s ≡ above B i s
unfolding above
above_same A B s zero h = refl
above_same A B s (suc i) h = cc (above_same A B s i (λ j l. h j (omega arith)), h i (omega arith))

pub reserves_same : {H H' B B' : ℕ → Bool} {w e k : ℕ} → ((s : ℕ) → s < e → H s ≡ H' s) → ((s : ℕ) → s < e → B s ≡ B' s) → Reserves H B w e k → Reserves H' B' w e k
reserves_same {H} {H'} {B} {B'} {w} {e} {k} h b r = record {
  exactly = sym (within_same B B' w e (λ t l u. b t u)) ∙ r.exactly;
  free = λ s l u t. sym (h s u) ∙ r.free s l u (b s u ∙ t);
  latest = λ s t l u v x y. sym (b t v) ∙ r.latest s t l u v (b s (omega arith) ∙ x) (h t v ∙ y);
}

-- ---- one job of any assignment that reserves by the words
module _ {H B : ℕ → Bool} {w e k : ℕ} (r : Reserves H B w e k) where
  -- its window has enough free slots
  pub enough_free : k ≤ between H w e
  enough_free = omega (arith, r.exactly, within_less B (λ t. not (H t)) w e (λ t l u b. ap not (r.free t l u b)))

  -- after a slot that it reserves, every free one is reserved too: there are fewer than k
  reserved_few : (s : ℕ) → w ≤ s → s < e → B s ≡ true → between H (suc s) e < k
  reserved_few s l u b =
      omega
      (arith, r.exactly, within_more B w s e l u b, within_less (λ t. not (H t)) B (suc s) e (λ t v x h. r.latest s t l v x b (not-true (H t) h)))

  -- before a slot that it leaves free, it reserves none: there are k after it
  left_many : (s : ℕ) → w ≤ s → s < e → H s ≡ false → B s ≡ false → k ≤ between H (suc s) e
  left_many s l u f b =
      omega
      (arith, r.exactly, within_skip B w (suc s) e (omega arith) u none, within_less B (λ t. not (H t)) (suc s) e (λ t v x y. ap not (r.free t (omega arith) x y)))
    where
      none : (t : ℕ) → w ≤ t → t < suc s → B t ≡ false
      none t v x =
          ⊎_elim (λ (y : t < s). false_if (B t) (λ z. never (r.latest t s v y u z f) b)) (λ (y : s ≤ t). let q : t ≡ s = omega arith in rw q b) (side t s)

  -- it reserves the slots that the rule picks
  pub picks_it : (s : ℕ) → w ≤ s → s < e → B s ≡ picks H e k s
  picks_it s l u =
      both_ways (B s) (picks H e k s) (λ b. picks_if H e k s (r.free s l u b) (reserved_few s l u b))
      (λ p. ⊎_elim (λ b. b) (λ b. absurd (omega (arith, picks_few H e k s p, left_many s l u (picks_free H e k s p) b))) (split (B s)))

-- ---- every job
module _ {E K : ℕ → ℕ → ℕ} {n : ℕ} (win : Windows E n) (cl : Claims E K n) (c L : ℕ) where
  -- where no job is short, the rule's assignment follows the words
  pub rule_follows : ((i : ℕ) → i < n → lacks E K c L i ≡ false) → Follows E K n c L (takes E K)
  unfolding Follows
  rule_follows h i w row l u b = reserves K win cl i w row (enough E K c L i (h i row) w l u b)

  module _ (ends : (i s : ℕ) → i < n → s < L → E i s ≤ L) (A : ℕ → ℕ → Bool) (f : Follows E K n c L A) where
    -- what the rows above hold, as far as they are known to be the rule's
    above_held : (i : ℕ) → i ≤ n → ((j : ℕ) → j < i → (s : ℕ) → c ≤ s → s < L → A j s ≡ takes E K j s) → (s : ℕ) → c ≤ s → s < L → above A i s ≡ held E K i s
    unfolding above
    above_held zero l h s a b = sym (held_none E K s)
    above_held (suc i) l h s a b =
        cc (held_is E K i s, above_held i (omega arith) (λ j u. h j (omega arith)) s a b, h i (omega arith) s a b)

    row_is : (i : ℕ) → i < n → ((s : ℕ) → c ≤ s → s < L → above A i s ≡ held E K i s) → (s : ℕ) → c ≤ s → s < L → A i s ≡ takes E K i s
    unfolding Follows
    row_is i row h s a b =
        let g : (w : ℕ) × (c ≤ w) × (w ≤ s) × (begins E K c i w ≡ true) × (E i w ≡ E i s) = begun E K win c i row s a in
        let r : Reserves (above A i) (A i) g.0 (E i g.0) (K i g.0) = f i g.0 row g.1 (omega (arith, g.2)) g.3 in
        let u : s < E i g.0 = rw g.4 (win.inside i s row) in
        let k : K i s ≡ K i g.0 = cl i g.0 s row g.2 u in
        let m : E i s ≤ L = ends i s row b in
        let d : between (above A i) (suc s) (E i s) ≡ between (held E K i) (suc s) (E i s) = between_same (held E K i) (above A i) (suc s) (E i s) (λ t v x. h t (omega arith) (omega arith)) in
        picks_it r s g.2 u ∙ cc (g.4, k, d, h s a b, takes_is E K i s)

    upto : (i : ℕ) → i ≤ n → (j : ℕ) → j < i → (s : ℕ) → c ≤ s → s < L → A j s ≡ takes E K j s
    upto zero l j u = absurd (omega arith)
    upto (suc i) l j u =
        ⊎_elim (λ (v : j < i). upto i (omega arith) j v)
        (λ (v : i ≤ j). let q : j ≡ i = omega arith in rw q (row_is i l (above_held i (omega arith) (upto i (omega arith)))))
        (side j i)

    -- whatever follows the words is what the rule reserves
    pub follows_only : (i s : ℕ) → i < n → c ≤ s → s < L → A i s ≡ takes E K i s
    follows_only i s row = upto n (omega arith) i row s

    -- and leaves no job short
    pub follows_enough : (i : ℕ) → i < n → lacks E K c L i ≡ false
    unfolding Follows
    follows_enough i row = if_enough E K c L i each
      where
        each : (w : ℕ) → c ≤ w → w < L → begins E K c i w ≡ true → short E K i w ≡ false
        each w l u b =
            not_short E K i w
            (omega
            (arith, enough_free (f i w row l u b), ends i w row u, between_same (held E K i) (above A i) w (E i w) (λ t v x. above_held i (omega arith) (upto i (omega arith)) t (omega arith) (omega (arith, ends i w row u)))))
