-- How many of a row's jobs ended so, of those whose deadline is after slot s and no later than slot e.
-- Assumes nothing.
use mathlib.Core.Path.{◌≡◌, refl, sym, ap, ◌∙◌}
use mathlib.Core.Logic.{◌≢◌, ⊎_elim}
use mathlib.Core.Bool.{Bool, true, false, not, ◌&&◌}
use mathlib.Core.List.{List}
use Prim.Native.Nat.{ℕ, zero, suc, ◌+◌, ◌-◌, ◌≤◌, ◌<◌}
use native.Mathlib.Omega.{arith}
use lib.Dec.{ltb, leb}
use borrow.Author.Tests.{ltb-true, lt-ltb, leb-true, le-leb}
use Rattle.table.specs.declared.Row.{Row}
use Rattle.table.specs.Rows.{row_at}
use Rattle.table.specs.Windows.{closes, window_end}
use Rattle.rule.specs.Slots.{unit, within}
use Rattle.rule.proofs.Tests.{split, side, false_if, both_ways, and_left, and_right, and_both}
use Rattle.rule.proofs.Counting.{within_step, within_none, within_less, within_same, within_skip, within_more, within_all, within_join, within_parted}
use Rattle.slots.specs.Records.{new_job}
use Rattle.slots.specs.OneSlot.{Work}
use Rattle.slots.specs.LostUnits.{Ending, going, past, done, failed, overran, aborted, ending_of}
use Rattle.dosing.specs.Jobs.{by_primary, by_alternate, fell, any, ending_at, jobs_due}
use Rattle.dosing.specs.Turns.{job_in, start_of}
use Rattle.dosing.proofs.JobWindows.{start_end, closes_zero, slot_inside, job_closes, job_due}

-- ---- counting, where a test fails everywhere
within_never : (P : ℕ → Bool) (a b : ℕ) → ((t : ℕ) → a ≤ t → t < b → P t ≡ false) → within P a b ≡ 0
within_never P a b none =
    ⊎_elim (λ (q : a < b). within_skip P a b b (omega arith) (omega arith) none ∙ within_none P b b (omega arith))
    (λ (q : b ≤ a). within_none P a b q)
    (side a b)

-- where it holds at some place
within_found : (P : ℕ → Bool) (a b : ℕ) → 0 < within P a b → (t : ℕ) × (a ≤ t) × (t < b) × (P t ≡ true)
within_found P a b some = go (b - a) a (omega arith) (omega arith) some
  where
    go : (n x : ℕ) → a ≤ x → b - x ≡ n → 0 < within P x b → (t : ℕ) × (a ≤ t) × (t < b) × (P t ≡ true)
    go zero x l e h = absurd (omega (arith, within_none P x b (omega arith)))
    go (suc n) x l e h =
        ⊎_elim (λ (q : P x ≡ true). (x, l, omega arith, q))
        (λ (q : P x ≡ false). go n (suc x) (omega arith) (omega arith) (omega (arith, within_step P x b (omega arith), ap unit q)))
        (split (P x))

-- two tests that agree at each place but i, where the first fails
within_but : (P Q : ℕ → Bool) (a i b : ℕ) → a ≤ i → i < b → ((t : ℕ) → t ≢ i → P t ≡ Q t) → P i ≡ false → within Q a b ≡ within P a b + unit (Q i)
within_but P Q a i b l u same off =
    omega (
      arith,
      within_join P a i b l (omega arith),
      within_join Q a i b l (omega arith),
      within_step P i b u,
      within_step Q i b u,
      ap unit off,
      within_same P Q a i (λ t m v. same t (λ e. omega arith)),
      within_same P Q (suc i) b (λ t m v. same t (λ e. omega arith)),
    )

-- ---- places, from 1 on, each with a time c and a mark X: the marked ones with a time after s and no later than e
module _ (c : ℕ → ℕ) (X : ℕ → Bool) where
  abbrev due_at : ℕ → ℕ → ℕ → Bool
  due_at s e j = ltb s (c j) && (leb (c j) e && X j)

  abbrev counted : ℕ → ℕ → ℕ
  counted s e = within (due_at s e) 1 (suc e)

  after : (s e j : ℕ) → due_at s e j ≡ true → s < c j
  after s e j h = ltb-true s (c j) (and_left (ltb s (c j)) (leb (c j) e && X j) h)

  before : (s e j : ℕ) → due_at s e j ≡ true → c j ≤ e
  before s e j h = leb-true (c j) e (and_left (leb (c j) e) (X j) (and_right (ltb s (c j)) (leb (c j) e && X j) h))

  marked : (s e j : ℕ) → due_at s e j ≡ true → X j ≡ true
  marked s e j h = and_right (leb (c j) e) (X j) (and_right (ltb s (c j)) (leb (c j) e && X j) h)

  due_if : (s e j : ℕ) → s < c j → c j ≤ e → X j ≡ true → due_at s e j ≡ true
  due_if s e j l u x = and_both (ltb s (c j)) (leb (c j) e && X j) (lt-ltb s (c j) l) (and_both (leb (c j) e) (X j) (le-leb (c j) e u) x)

  -- where no time is in the span
  counted_none : (s e : ℕ) → ((j : ℕ) → s < c j → c j ≤ e → ⊥) → counted s e ≡ 0
  counted_none s e out = within_never (due_at s e) 1 (suc e) (λ j m u. false_if (due_at s e j) (λ h. out j (after s e j h) (before s e j h)))

  -- where one is
  counted_found : (s e : ℕ) → 0 < counted s e → (j : ℕ) × (1 ≤ j) × (s < c j) × (c j ≤ e) × (X j ≡ true)
  counted_found s e some =
      let found = within_found (due_at s e) 1 (suc e) some in
      let h : due_at s e found.0 ≡ true = found.3 in
      (found.0, found.1, after s e found.0 h, before s e found.0 h, marked s e found.0 h)

  -- a time that is in one span where it is in the other
  alike : (s a b j : ℕ) → a ≤ b → (c j ≤ b → c j ≤ a) → due_at s a j ≡ due_at s b j
  alike s a b j l back =
      both_ways (due_at s a j) (due_at s b j)
      (λ h. due_if s b j (after s a j h) (omega (arith, before s a j h)) (marked s a j h))
      (λ h. due_if s a j (after s b j h) (back (before s b j h)) (marked s b j h))

  -- no place's time is before its number
  module _ (far : (j : ℕ) → j ≤ c j) where
    -- so none past the e-th is in the span, and more of them may be looked at
    raised : (s e J : ℕ) → e ≤ J → within (due_at s e) 1 (suc J) ≡ counted s e
    raised s e J l =
        omega (
          arith,
          within_join (due_at s e) 1 (suc e) (suc J) (omega arith) (omega arith),
          within_never (due_at s e) (suc e) (suc J) (λ j m u. false_if (due_at s e j) (λ h. omega (arith, before s e j h, far j))),
        )

    counted_some : (s e j : ℕ) → 1 ≤ j → s < c j → c j ≤ e → X j ≡ true → 0 < counted s e
    counted_some s e j l m u x = omega (arith, within_more (due_at s e) 1 j (suc e) l (omega (arith, far j)) (due_if s e j m u x))

    -- no time is after a and no later than b
    counted_same : (s a b : ℕ) → a ≤ b → ((j : ℕ) → c j ≤ b → c j ≤ a) → counted s b ≡ counted s a
    counted_same s a b l back = sym (within_same (due_at s a) (due_at s b) 1 (suc b) (λ j m u. alike s a b j l (back j))) ∙ raised s a b l

    -- the only one is that of place i, and it is b
    counted_one : (s a b i : ℕ) → a < b → 1 ≤ i → c i ≡ b → ((j : ℕ) → a < c j → c j ≤ b → j ≡ i) → counted s b ≡ counted s a + unit (ltb s b && X i)
    counted_one s a b i l m at only =
        omega (
          arith,
          within_but (due_at s a) (due_at s b) 1 i (suc b) m (omega (arith, far i)) (λ j n. alike s a b j (omega arith) (back j n))
              (false_if (due_at s a i) (λ h. omega (arith, before s a i h))),
          raised s a b (omega arith),
          ap unit here,
        )
      where
        back : (j : ℕ) → j ≢ i → c j ≤ b → c j ≤ a
        back j n u = ⊎_elim (λ (q : a < c j). absurd (n (only j q u))) (λ (q : c j ≤ a). q) (side a (c j))

        here : due_at s b i ≡ (ltb s b && X i)
        here = rw (at, le-leb b b (omega arith))

module _ (rs : List Row) (works : ℕ → Work) (reports : ℕ → ℕ) (k : ℕ) where
  abbrev r : Row
  r = row_at rs k

  abbrev ending : ℕ → Ending
  ending j = ending_at rs works reports k j

  abbrev due : (Ending → Bool) → ℕ → ℕ → ℕ
  due test s e = jobs_due rs works reports test k s e

  -- the job whose window slot a is in
  pub ending_at_lem : (a : ℕ) → ending (job_in r a) ≡ ending_of works reports k r.primary (start_of r a) (new_job r) (window_end r a - start_of r a)
  unfolding ending_at
  ending_at_lem a = ap (λ (e : ℕ). ending_of works reports k r.primary (start_of r a) (new_job r) (e - start_of r a)) (start_end r a)

  -- ---- by any test of how a job ended
  module _ (test : Ending → Bool) where
    abbrev ended : ℕ → Bool
    ended j = test (ending j)

    pub due_none : (s e : ℕ) → e ≤ s → due test s e ≡ 0
    unfolding jobs_due
    due_none s e l = counted_none (closes r) ended s e (λ j m u. omega arith)

    -- past the rows there is no deadline
    pub due_past : r.period ≡ 0 → (s e : ℕ) → due test s e ≡ 0
    unfolding jobs_due
    due_past z s e = counted_none (closes r) ended s e (λ j m u. omega (arith, closes_zero r z j))

    pub due_few : (s e : ℕ) → due test s e ≤ e
    unfolding jobs_due
    due_few s e = omega (arith, within_all (due_at (closes r) ended s e) 1 (suc e))

    pub due_found : (s e : ℕ) → 0 < due test s e → (j : ℕ) × (1 ≤ j) × (s < closes r j) × (closes r j ≤ e) × (test (ending j) ≡ true)
    unfolding jobs_due
    due_found s e some = counted_found (closes r) ended s e some

    module _ (long : 0 < r.period) where
      pub due_counts : (s e j : ℕ) → 1 ≤ j → s < closes r j → closes r j ≤ e → test (ending j) ≡ true → 0 < due test s e
      unfolding jobs_due
      due_counts s e j l m u x = counted_some (closes r) ended (job_closes r long) s e j l m u x

      -- inside a window there is no deadline
      pub due_same : (s a b : ℕ) → a ≤ b → b < window_end r a → due test s b ≡ due test s a
      unfolding jobs_due
      due_same s a b l u = counted_same (closes r) ended (job_closes r long) s a b l back
        where
          back : (j : ℕ) → closes r j ≤ b → closes r j ≤ a
          back j v =
              ⊎_elim (λ (q : a < closes r j). absurd (omega (arith, ap (closes r) (job_due r long a j q (omega arith)), start_end r a)))
              (λ (q : closes r j ≤ a). q)
              (side a (closes r j))

      -- and at its end there is that of its job
      pub due_closes : (s a : ℕ) → due test s (window_end r a) ≡ due test s a + unit (ltb s (window_end r a) && test (ending (job_in r a)))
      unfolding jobs_due
      due_closes s a =
          counted_one (closes r) ended (job_closes r long) s a (window_end r a) (job_in r a) (slot_inside r long a) (omega arith) (start_end r a) (job_due r long a)

  -- ---- all, by primary, by alternate, and those that fell
  abbrev kind : (Ending → Bool) → ℕ → ℕ → ℕ → Bool
  kind test = due_at (closes r) (λ j. test (ending j))

  -- each is dosed one way, and one way only
  pub due_parts : (s e : ℕ) → due any s e ≡ due by_primary s e + due by_alternate s e
  unfolding jobs_due
  due_parts s e =
      within_parted (kind any s e) (kind by_primary s e) (kind by_alternate s e) 1 (suc e) (λ j l u. parted (ltb s (closes r j)) (leb (closes r j) e) (by_primary (ending j)))
    where
      parted : (x y p : Bool) → unit (x && (y && true)) ≡ unit (x && (y && p)) + unit (x && (y && not p))
      parted true true true = refl
      parted true true false = refl
      parted true false p = refl
      parted false y p = refl

  -- what fell was dosed by alternate
  due_fell : (s e : ℕ) → due fell s e ≤ due by_alternate s e
  unfolding jobs_due
  due_fell s e =
      within_less (kind fell s e) (kind by_alternate s e) 1 (suc e) (λ j l u h.
      due_if (closes r) (λ j. by_alternate (ending j)) s e j
      (after (closes r) (λ j. fell (ending j)) s e j h)
      (before (closes r) (λ j. fell (ending j)) s e j h)
      (other (ending j) (marked (closes r) (λ j. fell (ending j)) s e j h)))
    where
      other : (x : Ending) → fell x ≡ true → by_alternate x ≡ true
      other going h = refl
      other past h = refl
      other done h = h
      other failed h = refl
      other overran h = refl
      other aborted h = refl

  pub due_divisor : (s e : ℕ) → due fell s e + due by_primary s e ≤ due any s e
  due_divisor s e = omega (arith, due_parts s e, due_fell s e)
