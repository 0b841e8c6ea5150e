-- The waiting set as a number of 16 bits: its trailing zeros are the places before its lowest member, and its ones are its members.
-- Assumes nothing.
use mathlib.Core.Path.{◌≡◌, refl, sym, ap, ap₂, ◌∙◌}
use mathlib.Core.Logic.{⊎_elim}
use mathlib.Core.Bool.{Bool, true, false, cond}
use mathlib.Core.List.{List, reverse}
use Prim.Native.Nat.{ℕ, zero, suc, ◌+◌, ◌-◌, ◌*◌, ◌/◌, ◌%◌, ◌^◌, ◌≤◌, ◌<◌}
use native.Mathlib.Omega.{arith}
use native.Mathlib.Nat.{eq-or-lt_of_le, pow-suc}
use borrow.Author.Tests.{eqb-true, eqb-false}
use lib.Count.{count_trailing_zeros, ones, under, ones_step}
use lib.Dec.{eqb}
use lib.ListN.{length, get_or, take}
use lib.Pow.{pow_mono}
use lib.Seq.{length-take-le, get_or-take}
use Rattle.std.proofs.lemmas.List.{get_or-reverse, length-reverse, get_or_default}
use Rattle.rule.specs.Slots.{unit, count, first_row}
use Rattle.rule.proofs.Tests.{split}
use Rattle.rule.proofs.FirstRow.{first_row_lem, found_none}
use Rattle.slots.specs.declared.Job.{Job}
use Rattle.slots.specs.declared.Awaiting.{Awaiting}
use Rattle.slots.specs.Records.{no_job, job_at}
use Rattle.slots.specs.OneSlot.{is_waiting, waits}
use Rattle.slots.specs.WaitingSet.{set_from}
use Rattle.slots.specs.Turns.{members_of}

unit_few : (b : Bool) → unit b ≤ 1
unit_few true = omega arith
unit_few false = omega arith

low : (b : Bool) (x : ℕ) → (unit b + 2 * x) % 2 ≡ unit b
low true x = omega arith
low false x = omega arith

high : (b : Bool) (x : ℕ) → (unit b + 2 * x) / 2 ≡ x
high true x = omega arith
high false x = omega arith

module _ (P : ℕ → Bool) where
  pub set_small : (i n : ℕ) → set_from P i n < 2 ^ n
  unfolding set_from
  set_small i zero = omega arith
  set_small i (suc n) = omega (arith, pow-suc 2 n, set_small (suc i) n, unit_few (P i))

  -- ---- the lowest member
  -- of n rows from row i on, the z-th from 0 is the first at which P holds
  abbrev Lowest : ℕ → ℕ → ℕ → Type 0
  Lowest i n z = (z < n) × (P (i + z) ≡ true) × ((j : ℕ) → j < z → P (i + j) ≡ false)

  one_later : (i n z : ℕ) → P i ≡ false → Lowest (suc i) n z → Lowest i (suc n) (suc z)
  one_later i n z h l = (
    omega (arith, l.0),
    (let e : i + suc z ≡ suc i + z = omega arith in rw e l.1),
    each,
  )
    where
      each : (j : ℕ) → j < suc z → P (i + j) ≡ false
      each zero u = let e : i + 0 ≡ i = omega arith in rw e h
      each (suc j) u = let e : i + suc j ≡ suc i + j = omega arith in rw e (l.2 j (omega arith))

  lowest_at : (k i n : ℕ) → n ≤ k → (set_from P i n ≡ 0 → ⊥) → Lowest i n (count_trailing_zeros k (set_from P i n))
  unfolding set_from count_trailing_zeros
  lowest_at k i zero l h = absurd (h refl)
  lowest_at zero i (suc n) l h = absurd (omega arith)
  lowest_at (suc k) i (suc n) l h =
      ⊎_elim
      (λ (e : P i ≡ true).
      let z : under ((unit (P i) + 2 * set_from P (suc i) n) % 2) (count_trailing_zeros k ((unit (P i) + 2 * set_from P (suc i) n) / 2)) ≡ 0 =
      ap (λ (d : ℕ). under d (count_trailing_zeros k ((unit (P i) + 2 * set_from P (suc i) n) / 2))) (low (P i) (set_from P (suc i) n) ∙ ap unit e)
      in
      rw z (omega arith, (let q : i + 0 ≡ i = omega arith in rw q e), λ j u. absurd (omega arith)))
      (λ (e : P i ≡ false).
      let x : set_from P (suc i) n ≡ 0 → ⊥ = λ q. h (omega (arith, q, ap unit e)) in
      let z : under ((unit (P i) + 2 * set_from P (suc i) n) % 2) (count_trailing_zeros k ((unit (P i) + 2 * set_from P (suc i) n) / 2)) ≡ suc (count_trailing_zeros k (set_from P (suc i) n)) =
      ap₂ (λ (d y : ℕ). under d (count_trailing_zeros k y)) (low (P i) (set_from P (suc i) n) ∙ ap unit e) (high (P i) (set_from P (suc i) n))
      in
      rw z (one_later i n (count_trailing_zeros k (set_from P (suc i) n)) e (lowest_at k (suc i) n (omega arith) x)))
      (split (P i))

  none_in : (i n : ℕ) → set_from P i n ≡ 0 → (j : ℕ) → j < n → P (i + j) ≡ false
  unfolding set_from
  none_in i zero h j l = absurd (omega arith)
  none_in i (suc n) h zero l =
      let q : i + 0 ≡ i = omega arith in
      rw q (⊎_elim (λ e. absurd (omega (arith, h, ap unit e))) (λ e. e) (split (P i)))
  none_in i (suc n) h (suc j) l = let q : i + suc j ≡ suc i + j = omega arith in rw q (none_in (suc i) n (omega (arith, h)) j (omega arith))

  pub lowest_row : (n x : ℕ) → n ≤ 16 → x ≡ set_from P 0 n → cond (eqb x 0) 0 (count_trailing_zeros 16 x + 1) ≡ first_row P n
  lowest_row n x l e =
      ⊎_elim
      (λ (z : eqb x 0 ≡ true).
      let q : x ≡ 0 = eqb-true x 0 z in
      rw z (sym (found_none P n (λ j u. rw (zero_on j) at (none_in 0 n (sym e ∙ q) j u)))))
      (λ (z : eqb x 0 ≡ false). rw z (some (eqb-false x 0 z)))
      (split (eqb x 0))
    where
      zero_on : (j : ℕ) → 0 + j ≡ j
      zero_on j = omega arith

      some : (x ≡ 0 → ⊥) → count_trailing_zeros 16 x + 1 ≡ first_row P n
      some z =
          let f : Lowest 0 n (count_trailing_zeros 16 x) = rw e (lowest_at 16 0 n l (λ q. z (e ∙ q))) in
          omega (
            arith,
            first_row_lem P n (count_trailing_zeros 16 x) (record {
              row = f.0;
              here = rw (zero_on (count_trailing_zeros 16 x)) at f.1;
              none_before = λ j u. rw (zero_on j) at (f.2 j u);
            }),
          )

  -- a member has its own place in the number
  pub member_least : (i n k : ℕ) → i ≤ k → k < i + n → P k ≡ true → 2 ^ (k - i) ≤ set_from P i n
  unfolding set_from
  member_least i zero k l u h = absurd (omega arith)
  member_least i (suc n) k l u h =
      ⊎_elim
      (λ (e : i ≡ k).
      let z : k - i ≡ 0 = omega arith in
      rw z (omega (arith, ap unit (ap P e ∙ h))))
      (λ (v : i < k).
      let z : k - i ≡ suc (k - suc i) = omega arith in
      rw z (omega (arith, pow-suc 2 (k - suc i), member_least (suc i) n k v (omega arith) h)))
      (eq-or-lt_of_le l)

  -- ---- the members
  pub count_in : (i n : ℕ) → ones (set_from P i n) ≡ count P i n
  unfolding set_from count ones
  count_in i zero = refl
  count_in i (suc n) =
      ones_step (unit (P i) + 2 * set_from P (suc i) n)
      ∙ ap₂ (λ (d y : ℕ). d + ones y) (low (P i) (set_from P (suc i) n)) (high (P i) (set_from P (suc i) n))
      ∙ ap (λ (y : ℕ). unit (P i) + y) (count_in (suc i) n)

-- ---- two sets
module _ (P Q : ℕ → Bool) where
  -- with the same members
  pub set_same : (i n : ℕ) → ((j : ℕ) → i ≤ j → j < i + n → P j ≡ Q j) → set_from P i n ≡ set_from Q i n
  unfolding set_from
  set_same i zero h = refl
  set_same i (suc n) h = ap₂ (λ (b : Bool) (x : ℕ). unit b + 2 * x) (h i (omega arith) (omega arith)) (set_same (suc i) n (λ j l u. h j (omega arith) (omega arith)))

  -- with one member less
  pub set_less : (i n k : ℕ) → i ≤ k → k < i + n → P k ≡ true → Q k ≡ false → ((j : ℕ) → (j ≡ k → ⊥) → P j ≡ Q j) → set_from Q i n ≡ set_from P i n - 2 ^ (k - i)
  unfolding set_from
  set_less i zero k l u a b h = absurd (omega arith)
  set_less i (suc n) k l u a b h =
      ⊎_elim
      (λ (e : i ≡ k).
      let z : k - i ≡ 0 = omega arith in
      rw z (omega (arith, ap unit (ap P e ∙ a), ap unit (ap Q e ∙ b), set_same (suc i) n (λ j v w. h j (λ q. omega arith)))))
      (λ (v : i < k).
      let z : k - i ≡ suc (k - suc i) = omega arith in
      rw z
      (omega (
        arith,
        pow-suc 2 (k - suc i),
        ap unit (h i (λ q. omega arith)),
        set_less (suc i) n k v (omega arith) a b h,
        member_least P (suc i) n k v (omega arith) a,
      )))
      (eq-or-lt_of_le l)

-- ---- the set as the code builds it, from the highest of n places down: the last k are in it
pub record Built (js : List Job) (n k x : ℕ) : Type 0 where
  pub few : n ≤ 16
  pub within : k ≤ n
  pub is : x ≡ set_from (waits js) (n - k) k

pub built_start : (js : List Job) (n : ℕ) → n ≤ 16 → Built js n 0 0
unfolding set_from
built_start js n l = record { few = l; within = omega arith; is = refl }

module _ {js : List Job} {n k x : ℕ} (g : Built js n k x) (full : n ≤ length js) where
  abbrev down : List Job
  down = reverse (take n js)

  size : length down ≡ n
  size = length-reverse (take n js) ∙ length-take-le n js full

  module _ (l : k < length down) where
    -- there is room for one place more
    pub built_room : x < 32768
    built_room = let most : k ≤ 15 = omega (arith, g.few, size) in omega (arith, g.is, set_small (waits js) (n - k) k, pow_mono most)

    is_next : (j : Job) → j ≡ get_or down k j → j ≡ job_at js (n - (k + 1))
    is_next j e =
        let p : length (take n js) - 1 - k ≡ n - (k + 1) = omega (arith, length-take-le n js full) in
        e ∙ get_or-reverse (take n js) k j (omega (arith, size, length-take-le n js full)) ∙ rw p (get_or-take n js (n - (k + 1)) j (omega (arith, size)) ∙ get_or_default js (n - (k + 1)) j no_job (omega (arith, size)))

    pub built_step : (j : Job) → j ≡ get_or down k j → (y : ℕ) → y ≡ unit (is_waiting j.state) + 2 * x → Built js n (k + 1) y
    unfolding set_from
    built_step j is y e =
        let one : k + 1 ≡ suc k = omega arith in
        let next : suc (n - (k + 1)) ≡ n - k = omega (arith, size) in
        record {
          few = g.few;
          within = omega (arith, size);
          is =
              e
              ∙ ap₂ (λ (i : Job) (z : ℕ). unit (is_waiting i.state) + 2 * z) (is_next j is) g.is
              ∙ sym (ap (set_from (waits js) (n - (k + 1))) one ∙ ap (λ (i : ℕ). unit (waits js (n - (k + 1))) + 2 * set_from (waits js) i k) next);
        }

pub members_are : (js : List Job) (n x row many : ℕ) → n ≤ 16 → x ≡ set_from (waits js) 0 n → row ≡ cond (eqb x 0) 0 (count_trailing_zeros 16 x + 1) → many ≡ ones x
    → ◌≡◌ {A = Awaiting} (record { set = x; row = row; count = many }) (members_of js n)
unfolding members_of
members_are js n x row many l e f g =
    let a : row ≡ first_row (waits js) n = f ∙ lowest_row (waits js) n x l e in
    let b : many ≡ count (waits js) 0 n = g ∙ ap ones e ∙ count_in (waits js) 0 n in
    simp (a, b, e)
