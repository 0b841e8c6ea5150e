-- The sweep from the end down gives the holders of the rule.
-- Assumes nothing.
use mathlib.Core.Path.{◌≡◌, refl, sym, ap, ◌∙◌}
use mathlib.Core.Logic.{⊎_elim}
use mathlib.Core.Bool.{true, false}
use mathlib.Core.List.{List, [], ◌∷◌, ◌++◌, append-nil}
use Prim.Native.Nat.{ℕ, zero, suc, ◌+◌, ◌-◌, ◌≤◌, ◌<◌}
use native.Mathlib.Nat.{eq-or-lt_of_le}
use native.Mathlib.Omega.{arith}
use lib.ListN.{replicate}
use lib.Seq.{append_snoc}
use borrow.Author.Tests.{eq-eqb, ne_eqb}
use Rattle.rule.specs.Slots.{unit}
use Rattle.rule.specs.Rule.{held, takes, holder, Windows, Claims}
use Rattle.rule.specs.Sweep.{rem, place_of, fall, refill, down, sweep, holders}
use Rattle.rule.proofs.Facts.{held_none, held_up, held_taken, held_neither, leaves_held}
use Rattle.rule.proofs.Holders.{holder_is, holder_free}
use Rattle.rule.proofs.Remainders.{met, unmet, rem_step, rem_last}

module _ (E K : ℕ → ℕ → ℕ) where
  -- what is left of the claims of n rows from row i on, at slot s
  rems : ℕ → ℕ → ℕ → List ℕ
  rems s i zero = []
  rems s i (suc n) = rem E K i s ∷ rems s (suc i) n

  -- ---- the first that is not 0 is the holder
  holder_rems : (n i s : ℕ) → held E K i s ≡ false → place_of i (rems s i n) ≡ holder E K (i + n) s
  unfolding rems place_of
  holder_rems zero i s h = let e : i + 0 ≡ i = omega arith in rw e (sym (holder_free E K i s h))
  holder_rems (suc n) i s h = go (rem E K i s) refl (holder_rems n (suc i) s)
    where
      go : (k : ℕ) → rem E K i s ≡ k → (held E K (suc i) s ≡ false → place_of (suc i) (rems s (suc i) n) ≡ holder E K (suc i + n) s)
          → place_of i (k ∷ rems s (suc i) n) ≡ holder E K (i + suc n) s
      go zero e more =
          let q : i + suc n ≡ suc i + n = omega arith in
          rw q (more (held_neither E K i s h (met E K i s e)))
      go (suc x) e more = sym (holder_is E K (i + suc n) i s (omega arith) (unmet E K i s h (omega arith)))

  -- ---- and it alone falls
  less : ℕ → ℕ → ℕ → List ℕ
  less s i zero = []
  less s i (suc n) = (rem E K i s - unit (takes E K i s)) ∷ less s (suc i) n

  -- the rows after the holder
  less_none : (n i s : ℕ) → held E K i s ≡ true → less s i n ≡ rems s i n
  unfolding less rems
  less_none zero i s h = refl
  less_none (suc n) i s h =
      let t : takes E K i s ≡ false = leaves_held E K i s h in
      let z : rem E K i s - unit (takes E K i s) ≡ rem E K i s = omega (arith, ap unit t) in
      cc (less_none n (suc i) s (held_up E K i s h))

  fall_rems : (n i s : ℕ) → held E K i s ≡ false → fall (rems s i n) ≡ less s i n
  unfolding less rems fall
  fall_rems zero i s h = refl
  fall_rems (suc n) i s h = go (rem E K i s) refl (fall_rems n (suc i) s)
    where
      go : (k : ℕ) → rem E K i s ≡ k → (held E K (suc i) s ≡ false → fall (rems s (suc i) n) ≡ less s (suc i) n)
          → fall (k ∷ rems s (suc i) n) ≡ ((k - unit (takes E K i s)) ∷ less s (suc i) n)
      go zero e more =
          let t : takes E K i s ≡ false = met E K i s e in
          let z : 0 ≡ 0 - unit (takes E K i s) = omega arith in
          cc (more (held_neither E K i s h t))
      go (suc x) e more =
          let t : takes E K i s ≡ true = unmet E K i s h (omega arith) in
          let z : x ≡ suc x - unit (takes E K i s) = omega (arith, ap unit t) in
          cc (less_none n (suc i) s (held_taken E K i s t))

  module _ (N : ℕ) (win : Windows E N) (cl : Claims E K N) where
    refill_here : (s i x : ℕ) (xs : List ℕ) → E i s ≡ suc s → refill E K s i (x ∷ xs) ≡ K i s ∷ refill E K s (suc i) xs
    unfolding refill
    refill_here s i x xs e = rw (eq-eqb (E i s) (suc s) e)

    refill_else : (s i x : ℕ) (xs : List ℕ) → suc s < E i s → refill E K s i (x ∷ xs) ≡ x ∷ refill E K s (suc i) xs
    unfolding refill
    refill_else s i x xs l = rw (ne_eqb (E i s) (suc s) (λ q. omega arith))

    refill_none : (s i : ℕ) → refill E K s i [] ≡ []
    unfolding refill
    refill_none s i = refl

    -- one slot down
    refill_less : (n i s : ℕ) → i + n ≡ N → refill E K s i (less (suc s) i n) ≡ rems s i n
    unfolding less rems
    refill_less zero i s e = refill_none s i
    refill_less (suc n) i s e =
        let more : refill E K s (suc i) (less (suc s) (suc i) n) ≡ rems s (suc i) n = refill_less n (suc i) s (omega arith) in
        let l : i < N = omega arith in
        let x : ℕ = rem E K i (suc s) - unit (takes E K i (suc s)) in
        let xs : List ℕ = less (suc s) (suc i) n in
        ⊎_elim (λ (q : suc s ≡ E i s). cc (refill_here s i x xs (sym q), rem_last E K i s (sym q)))
        (λ (u : suc s < E i s).
        cc (refill_else s i x xs u, rem_step E K i s u (win.flat i s (suc s) l (omega arith) u) (cl i s (suc s) l (omega arith) u)))
        (eq-or-lt_of_le (win.inside i s l))

    -- at a slot after which every window ends
    refill_last : (n i s : ℕ) → i + n ≡ N → ((j : ℕ) → j < N → E j s ≡ suc s) → refill E K s i (replicate n 0) ≡ rems s i n
    unfolding rems
    refill_last zero i s e h = refill_none s i
    refill_last (suc n) i s e h =
        let more : refill E K s (suc i) (replicate n 0) ≡ rems s (suc i) n = refill_last n (suc i) s (omega arith) h in
        let q : E i s ≡ suc s = h i (omega arith) in
        cc (refill_here s i 0 (replicate n 0) q, rem_last E K i s q)

    -- ---- the list of holders
    holders_more : (c m : ℕ) → holders E K N c (suc m) ≡ holders E K N c m ++ (holder E K N (c + m) ∷ [])
    unfolding holders
    holders_more c zero = let e : c + 0 ≡ c = omega arith in ap (λ (x : ℕ). holder E K N x ∷ []) (sym e)
    holders_more c (suc m) =
        let e : suc c + m ≡ c + suc m = omega arith in
        ap (λ (xs : List ℕ). holder E K N c ∷ xs) (rw e at (holders_more (suc c) m))

    -- xs is ready for the last of m slots
    abbrev Ready : ℕ → ℕ → List ℕ → Type 0
    Ready c zero xs = Unit {0}
    Ready c (suc m) xs = refill E K (c + m) 0 xs ≡ rems (c + m) 0 N

    ready_next : (c m : ℕ) → Ready c m (less (c + m) 0 N)
    ready_next c zero = tt
    ready_next c (suc m) = let e : c + suc m ≡ suc (c + m) = omega arith in rw e (refill_less N 0 (c + m) (omega arith))

    down_suc : (c m : ℕ) (xs acc : List ℕ)
        → down E K c (suc m) xs acc ≡ down E K c m (fall (refill E K (c + m) 0 xs)) (place_of 0 (refill E K (c + m) 0 xs) ∷ acc)
    unfolding down
    down_suc c m xs acc = refl

    down_zero : (c : ℕ) (xs acc : List ℕ) → down E K c 0 xs acc ≡ acc
    unfolding down
    down_zero c xs acc = refl

    down_is : (c m : ℕ) (xs acc : List ℕ) → Ready c m xs → down E K c m xs acc ≡ holders E K N c m ++ acc
    unfolding holders
    down_is c zero xs acc r = down_zero c xs acc
    down_is c (suc m) xs acc r =
        let h : ℕ = holder E K N (c + m) in
        let z : 0 + N ≡ N = omega arith in
        let a : place_of 0 (refill E K (c + m) 0 xs) ≡ h = ap (place_of 0) r ∙ holder_rems N 0 (c + m) (held_none E K (c + m)) ∙ ap (λ (x : ℕ). holder E K x (c + m)) z in
        let b : fall (refill E K (c + m) 0 xs) ≡ less (c + m) 0 N = ap fall r ∙ fall_rems N 0 (c + m) (held_none E K (c + m)) in
        down_suc c m xs acc ∙ rw (a, b) (down_is c m (less (c + m) 0 N) (h ∷ acc) (ready_next c m))
        ∙ sym (ap (λ (l : List ℕ). l ++ acc) (holders_more c m) ∙ append_snoc (holders E K N c m) h acc)

    -- the sweep gives the rule's holders, where every window ends at L, the end
    pub sweep_is : (c L : ℕ) → c ≤ L → ((j s : ℕ) → j < N → suc s ≡ L → E j s ≡ suc s) → sweep E K N c L ≡ holders E K N c (L - c)
    unfolding sweep
    sweep_is c L l h = down_is c (L - c) (replicate N 0) [] (start (L - c) (omega arith)) ∙ append-nil (holders E K N c (L - c))
      where
        start : (m : ℕ) → c + m ≡ L → Ready c m (replicate N 0)
        start zero e = tt
        start (suc m) e = refill_last N 0 (c + m) (omega arith) (λ j u. h j (c + m) u (omega arith))
