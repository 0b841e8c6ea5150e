-- The sweep from the cycle's end L down: what its loops hold when the slots from t on are passed.
-- Assumes nothing.
use mathlib.Core.Path.{◌≡◌, refl, sym, ap, ◌∙◌}
use mathlib.Core.Logic.{⊎_elim}
use mathlib.Core.Bool.{Bool, cond, ◌&&◌}
use mathlib.Core.List.{List, ◌++◌}
use Prim.Native.Nat.{ℕ, suc, ◌+◌, ◌-◌, ◌≤◌, ◌<◌, min}
use native.Mathlib.Nat.{eq-or-lt_of_le}
use native.Mathlib.Omega.{arith}
use lib.Dec.{ltb}
use lib.ListN.{get_or, set, length, drop, length-set, length-append, length-drop, get_or-append}
use lib.Seq.{get_or-set_same, get_or-set_other, get_or-drop, get_or-append-add, ext_get_or}
use borrow.Author.Tests.{lt-ltb, le-ltb}
use Rattle.rule.specs.Slots.{some, first_row}
use Rattle.rule.specs.Rule.{holder, short, begins, lacks, tight_row}
use Rattle.rule.specs.Sweep.{holders}
use Rattle.rule.proofs.FirstRow.{found_none}
use Rattle.rule.proofs.Tests.{side}
use Rattle.rule.proofs.HolderList.{length_holders, get_or_holders}
use Rattle.reserve.specs.Turns.{lower_of, Coming, Turned}
use Rattle.reserve.proofs.Lower.{first_of_two}

module _ (E K : ℕ → ℕ → ℕ) (n L : ℕ) where
  -- xs is ready for the slot before t
  pub record Next (xs : List ℕ) (t : ℕ) : Type 0 where
    pub within : t ≤ L
    pub coming : (s : ℕ) → suc s ≡ t → Coming E K n s xs

  -- at the cycle's end every window ends, so nothing is asked
  pub next_start : ((i s : ℕ) → i < n → suc s ≡ L → E i s ≡ suc s) → (xs : List ℕ) → Next xs L
  next_start last xs = record { within = omega arith; coming = λ s e i l u. absurd (omega (arith, last i s l e)) }

  pub next_turn : {xs ys : List ℕ} {t c row low : ℕ} → Next xs t → 0 < t → Turned E K c n (t - 1) ys row low → Next ys (t - 1)
  next_turn g l u = record { within = omega (arith, g.within); coming = λ s e i r v. rw e (u.rests i r) }

  -- ---- the holder of the slot passed last, and the lowest short row so far, on the way down to c
  abbrev Lacking : ℕ → ℕ → ℕ
  Lacking c t = first_row (λ i. some (λ s. begins E K c i s && short E K i s) t (L - t)) n

  lacking_none : (c t : ℕ) → L ≤ t → Lacking c t ≡ 0
  unfolding some
  lacking_none c t l = let z : L - t ≡ 0 = omega arith in rw z (found_none _ n (λ i l. refl))

  pub record Found (c t row low : ℕ) : Type 0 where
    pub not_past : min c L ≤ t
    pub holds : row ≡ cond (ltb t L) (holder E K n t) 0
    pub lowest : low ≡ Lacking c t

  pub found_start : (c : ℕ) → Found c L 0 0
  found_start c = record { not_past = omega arith; holds = rw (le-ltb L L (omega arith)); lowest = sym (lacking_none c L (omega arith)) }

  pub found_turn : {ys : List ℕ} {t c last low row here low' : ℕ} → t ≤ L → c < t → Found c t last low → Turned E K c n (t - 1) ys row here → low' ≡ lower_of here low
      → Found c (t - 1) row low'
  unfolding some
  found_turn {ys} {t} {c} {last} {low} {row} {here} l p g u h =
      let a : L - (t - 1) ≡ suc (L - t) = omega arith in
      let b : suc (t - 1) ≡ t = omega arith in
      let P : ℕ → Bool = λ i. begins E K c i (t - 1) && short E K i (t - 1) in
      let Q : ℕ → Bool = λ i. some (λ s. begins E K c i s && short E K i s) t (L - t) in
      let k : lower_of here low ≡ lower_of (first_row P n) (first_row Q n) = rw (u.lowest, g.lowest) in
      record {
        not_past = omega (arith, g.not_past);
        holds = rw (lt-ltb (t - 1) L (omega arith)) u.holds;
        lowest = h ∙ k ∙ sym (rw (a, b) (first_of_two P Q n));
      }

  -- at c, or at the cycle's end where c is past it
  pub found_end : {c t row low : ℕ} → t ≤ L → t ≤ c → Found c t row low → (row ≡ cond (ltb c L) (holder E K n c) 0) × (low ≡ tight_row E K c L n)
  unfolding tight_row lacks
  found_end {c} {t} l u g =
      ⊎_elim (λ (v : c < L). let q : t ≡ c = omega (arith, g.not_past) in (rw q at g.holds, rw q at g.lowest))
      (λ (v : L ≤ c).
      let q : L ≤ t = omega (arith, g.not_past) in
      (g.holds ∙ rw (le-ltb t L q, le-ltb c L v), g.lowest ∙ lacking_none c t q ∙ sym (lacking_none c c v)))
      (side c L)

  -- ---- the list of holders so far, over what was in the lent bytes
  pub record Filled (old out : List ℕ) (t : ℕ) : Type 0 where
    pub size : length out ≡ length old
    pub written : (j : ℕ) → t ≤ j → j < L → get_or out j 0 ≡ holder E K n j
    pub kept : (j : ℕ) → L ≤ j → get_or out j 0 ≡ get_or old j 0

  pub filled_start : (old : List ℕ) → Filled old old L
  filled_start old = record { size = refl; written = λ j l u. absurd (omega arith); kept = λ j l. refl }

  pub filled_turn : {old out ys : List ℕ} {t c row low : ℕ} → Filled old out t → t ≤ L → 0 < t → L ≤ length old → Turned E K c n (t - 1) ys row low
      → Filled old (set out (t - 1) row) (t - 1)
  filled_turn {old} {out} {ys} {t} {c} {row} g w p room u = record {
    size = simp length-set g.size;
    written = λ j l v.
        ⊎_elim
        (λ (e : t - 1 ≡ j). rw (← e) (get_or-set_same out (t - 1) row 0 (omega (arith, g.size)) ∙ u.holds))
        (λ (m : t - 1 < j). get_or-set_other out (t - 1) j row 0 (λ q. omega arith) ∙ g.written j (omega arith) v)
        (eq-or-lt_of_le l);
    kept = λ j l. get_or-set_other out (t - 1) j row 0 (λ q. omega arith) ∙ g.kept j l;
  }

  pub filled_end : {old out : List ℕ} → Filled old out 0 → L ≤ length old → out ≡ holders E K n 0 L ++ drop L old
  filled_end {old} {out} g room = ext_get_or 0 out (holders E K n 0 L ++ drop L old) long each
    where
      long : length out ≡ length (holders E K n 0 L ++ drop L old)
      long = simp (length-append, length-drop) (omega (arith, g.size, length_holders E K n 0 L))

      each : (j : ℕ) → j < length out → get_or out j 0 ≡ get_or (holders E K n 0 L ++ drop L old) j 0
      each j l =
          ⊎_elim
          (λ (u : j < L).
          let z : 0 + j ≡ j = omega arith in
          g.written j (omega arith) u ∙ sym (get_or-append (holders E K n 0 L) (drop L old) 0 j (omega (arith, length_holders E K n 0 L)) ∙ get_or_holders E K n 0 L j u ∙ ap (holder E K n) z))
          (λ (u : L ≤ j).
          let q : j ≡ length (holders E K n 0 L) + (j - L) = omega (arith, length_holders E K n 0 L) in
          let r : L + (j - L) ≡ j = omega arith in
          g.kept j u ∙ sym (ap (λ (k : ℕ). get_or (holders E K n 0 L ++ drop L old) k 0) q ∙ get_or-append-add (holders E K n 0 L) (drop L old) (j - L) 0 ∙ get_or-drop L old (j - L) 0 ∙ ap (λ (k : ℕ). get_or old k 0) r))
          (side j L)
