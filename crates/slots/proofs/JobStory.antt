-- One job over its window: what its state tells of the slots that have passed. Nothing here knows of tables, records or reservations.
-- Assumes nothing.
use mathlib.Core.Path.{◌≡◌, refl, sym, ap, ◌∙◌}
use mathlib.Core.Logic.{◌≢◌, ◌⊎◌, inl, inr, ⊎_elim}
use mathlib.Core.Bool.{Bool, true, false}
use Prim.Native.Nat.{ℕ, zero, suc, ◌+◌, ◌≤◌, ◌<◌}
use native.Mathlib.Nat.{eq-or-lt_of_le}
use native.Mathlib.Omega.{arith}
use lib.Dec.{leb}
use borrow.Author.Tests.{eq-eqb, leb-true}
use Rattle.table.specs.declared.Row.{Row}
use Rattle.rule.specs.Slots.{unit, within}
use Rattle.rule.proofs.Tests.{and_right}
use Rattle.rule.proofs.Counting.{within_none, within_last}
use Rattle.slots.specs.declared.State.{State}
use Rattle.slots.specs.declared.State.TheVariants.{Waiting, Failed, Done}
use Rattle.slots.specs.declared.Job.{Job}
use Rattle.slots.specs.Records.{new_job}
use Rattle.slots.specs.Sound.{state_fits, job_fits}
use Rattle.slots.specs.OneSlot.{Work, primary, alternate, on_primary}
use Rattle.slots.specs.History.{is_primary, is_alternate, primaries, alternates}
use Rattle.slots.proofs.Acts.{Act, rests, tries, falls_back}
use Rattle.slots.proofs.JobFacts.{waiting_not_done, failed_not_done, new_job_lem, primary_units, primary_done, primary_cases, alternate_units, alternate_state, waiting_fits, done_left, fits_units}

-- ---- the job's state and what is left of it
waiting_not_failed : Waiting ≢ Failed
waiting_not_failed e = let z : ◌≡◌ {A = ℕ} 0 1 = cc in omega arith

fits_left : (r : Row) (j : Job) → job_fits r j ≡ true → j.left ≤ r.alternate
unfolding job_fits
fits_left r j f = go j.state refl
  where
    go : (x : State) → j.state ≡ x → j.left ≤ r.alternate
    go Waiting e = omega (arith, waiting_fits r j e f)
    go Failed e =
        let g : state_fits Failed r.primary r.alternate j.run j.left ≡ true = rw e at f in
        leb-true j.left r.alternate (and_right (leb j.run r.primary) (leb j.left r.alternate) g)
    go Done e = omega (arith, done_left r j e f)

-- ---- the tests of a work
pub primary_is : (k : ℕ) → is_primary k (primary k) ≡ true
unfolding is_primary
primary_is k = eq-eqb k k refl

pub alternate_is : (k : ℕ) → is_alternate k (alternate k) ≡ true
unfolding is_alternate
alternate_is k = eq-eqb k k refl

pub primary_not : (k : ℕ) → is_alternate k (primary k) ≡ false
unfolding is_alternate
primary_not k = refl

pub alternate_not : (k : ℕ) → is_primary k (alternate k) ≡ false
unfolding is_primary
alternate_not k = refl

-- ---- units counted from slot s on: none yet, and with one slot more
module _ (k : ℕ) (works : ℕ → Work) (s : ℕ) where
  pub primaries_none : (e : ℕ) → e ≤ s → primaries k works s e ≡ 0
  unfolding primaries
  primaries_none e l = within_none (λ t. is_primary k (works t)) s e l

  pub alternates_none : (e : ℕ) → e ≤ s → alternates k works s e ≡ 0
  unfolding alternates
  alternates_none e l = within_none (λ t. is_alternate k (works t)) s e l

  more : (P : ℕ → Bool) (m : ℕ) → within P s (s + suc m) ≡ within P s (s + m) + unit (P (s + m))
  more P m =
      let e : s + suc m ≡ suc (s + m) = omega arith in
      ap (within P s) e ∙ within_last P s (s + m) (omega arith)

  pub primaries_more : (m : ℕ) → primaries k works s (s + suc m) ≡ primaries k works s (s + m) + unit (is_primary k (works (s + m)))
  unfolding primaries
  primaries_more m = more (λ t. is_primary k (works t)) m

  pub alternates_more : (m : ℕ) → alternates k works s (s + suc m) ≡ alternates k works s (s + m) + unit (is_alternate k (works (s + m)))
  unfolding alternates
  alternates_more m = more (λ t. is_alternate k (works t)) m

-- in one of the first m slots from s on row k's primary ran and was reported done
abbrev pub DoneIn : ℕ → (ℕ → Work) → (ℕ → ℕ) → ℕ → ℕ → Type 0
DoneIn k works reports s m = (i : ℕ) × (i < m) × (works (s + i) ≡ primary k) × (reports (s + i) ≡ 1)

-- ---- n slots from slot s on, in which row k, whose row is r, has a job that is j₀ at first: J m is the job before the m-th of them, counted from 0, and J n after the last
pub record Window (k : ℕ) (r : Row) (s n : ℕ) (works : ℕ → Work) (reports : ℕ → ℕ) (j₀ : Job) (J : ℕ → Job) : Type 0 where
  pub starts : J 0 ≡ j₀
  pub acts : (m : ℕ) → m < n → Act k (works (s + m)) (reports (s + m)) r (J m) (J (suc m))
  pub fits : (m : ℕ) → m ≤ n → job_fits r (J m) ≡ true

module _ {k : ℕ} {r : Row} {s n : ℕ} {works : ℕ → Work} {reports : ℕ → ℕ} {j₀ : Job} {J : ℕ → Job} (win : Window k r s n works reports j₀ J) where
  abbrev ran : ℕ → ℕ
  ran m = primaries k works s (s + m)

  abbrev fell : ℕ → ℕ
  fell m = alternates k works s (s + m)

  abbrev Slot : ℕ → Type 0
  Slot m = Act k (works (s + m)) (reports (s + m)) r (J m) (J (suc m))

  first_run : (J 0).run ≡ j₀.run
  first_run = ap (λ (j : Job). j.run) win.starts

  first_left : (J 0).left ≡ j₀.left
  first_left = ap (λ (j : Job). j.left) win.starts

  first_state : (J 0).state ≡ j₀.state
  first_state = ap (λ (j : Job). j.state) win.starts

  -- ---- the units that the job has run
  pub units : (m : ℕ) → m ≤ n → ran m + j₀.run ≡ (J m).run
  units zero l = omega (arith, primaries_none k works s (s + 0) (omega arith), first_run)
  units (suc m) l = go (units m (omega arith)) (win.acts m l)
    where
      go : ran m + j₀.run ≡ (J m).run → Slot m → ran (suc m) + j₀.run ≡ (J (suc m)).run
      go h (rests p a e) = omega (arith, primaries_more k works s m, ap unit p, ap (λ (j : Job). j.run) e)
      go h (tries w x e) =
          omega (arith, primaries_more k works s m, ap (λ v. unit (is_primary k v)) w, ap unit (primary_is k), ap (λ (j : Job). j.run) e, primary_units (reports (s + m)) r (J m))
      go h (falls_back w x e) =
          omega (arith, primaries_more k works s m, ap (λ v. unit (is_primary k v)) w, ap unit (alternate_not k), ap (λ (j : Job). j.run) e, (alternate_units (J m)).0)

  -- ---- what its state tells: done, and then it was so at first or was reported so, with no alternate unit; or not done, and the alternate units run and left make up what was
  -- left at first
  abbrev pub Story : ℕ → Type 0
  Story m =
      (((J m).state ≡ Done) × (fell m ≡ 0) × ((j₀.state ≡ Done) ⊎ DoneIn k works reports s m))
      ⊎ (((J m).state ≢ Done) × (fell m + (J m).left ≡ j₀.left))

  story_start : Story 0
  story_start = go j₀.state refl
    where
      none : fell 0 ≡ 0
      none = alternates_none k works s (s + 0) (omega arith)

      full : fell 0 + (J 0).left ≡ j₀.left
      full = omega (arith, none, first_left)

      go : (x : State) → j₀.state ≡ x → Story 0
      go Waiting e = inr (λ d. waiting_not_done (sym (first_state ∙ e) ∙ d), full)
      go Failed e = inr (λ d. failed_not_done (sym (first_state ∙ e) ∙ d), full)
      go Done e = inl (first_state ∙ e, none, inl e)

  longer : (m : ℕ) → (j₀.state ≡ Done) ⊎ DoneIn k works reports s m → (j₀.state ≡ Done) ⊎ DoneIn k works reports s (suc m)
  longer m (inl e) = inl e
  longer m (inr f) = inr (f.0, omega (arith, f.1), f.2, f.3)

  story_step : (m : ℕ) → m < n → Story m → Story (suc m)
  story_step m l y = go (win.acts m l)
    where
      go : Slot m → Story (suc m)
      go (rests p a e) =
          let f : fell (suc m) ≡ fell m = omega (arith, alternates_more k works s m, ap unit a) in
          let h : (J (suc m)).state ≡ (J m).state = ap (λ (j : Job). j.state) e in
          ⊎_elim (λ z. inl (h ∙ z.0, f ∙ z.1, longer m z.2))
          (λ z. inr (λ d. z.0 (sym h ∙ d), omega (arith, z.1, ap (λ (j : Job). j.left) e))) y
      go (tries w x e) =
          let f : fell (suc m) ≡ fell m = omega (arith, alternates_more k works s m, ap (λ v. unit (is_alternate k v)) w, ap unit (primary_not k)) in
          let full : (J m).left ≡ r.alternate = (waiting_fits r (J m) x (win.fits m (omega arith))).1 in
          let few : j₀.left ≤ r.alternate = omega (arith, fits_left r (J 0) (win.fits 0 (omega arith)), first_left) in
          ⊎_elim (λ z. absurd (waiting_not_done (sym x ∙ z.0)))
          (λ z.
          ⊎_elim (λ (d : reports (s + m) ≡ 1).
          inl (
            ap (λ (j : Job). j.state) e ∙ ap (λ i. (on_primary i r (J m)).state) d ∙ (primary_done r (J m)).0,
            omega (arith, z.1),
            inr (m, omega arith, w, d),
          ))
          (λ d. inr (λ h. d.1 (sym (ap (λ (j : Job). j.state) e) ∙ h), omega (arith, d.0, z.1, ap (λ (j : Job). j.left) e)))
          (primary_cases (reports (s + m)) r (J m)))
          y
      go (falls_back w x e) =
          let f : fell (suc m) ≡ suc (fell m) = omega (arith, alternates_more k works s m, ap (λ v. unit (is_alternate k v)) w, ap unit (alternate_is k)) in
          ⊎_elim (λ z. absurd (omega (arith, done_left r (J m) z.0 (win.fits m (omega arith)))))
          (λ z.
          inr (
            λ d. failed_not_done (sym (ap (λ (j : Job). j.state) e ∙ alternate_state (J m) z.0) ∙ d),
            omega (arith, z.1, ap (λ (j : Job). j.left) e, (alternate_units (J m)).1),
          ))
          y

  pub story : (m : ℕ) → m ≤ n → Story m
  story zero l = story_start
  story (suc m) l = story_step m l (story m (omega arith))

  -- ---- the bounds, and the end
  pub ran_few : (m : ℕ) → m ≤ n → ran m ≤ r.primary
  ran_few m l = omega (arith, units m l, fits_units r (J m) (win.fits m l))

  pub fell_few : (m : ℕ) → m ≤ n → fell m ≤ r.alternate
  fell_few m l =
      let few : j₀.left ≤ r.alternate = omega (arith, fits_left r (J 0) (win.fits 0 (omega arith)), first_left) in
      ⊎_elim (λ z. omega (arith, z.1)) (λ z. omega (arith, z.1)) (story m l)

  -- a new job of which nothing is left was reported done, or had its full alternate time
  pub at_end : j₀ ≡ new_job r → (J n).left ≡ 0 → DoneIn k works reports s n ⊎ (fell n ≡ r.alternate)
  at_end new h =
      ⊎_elim (λ z. ⊎_elim (λ d. absurd (waiting_not_done (sym (ap (λ (j : Job). j.state) new ∙ (new_job_lem r).0) ∙ d))) (λ f. inl f) z.2)
      (λ z. inr (omega (arith, z.1, ap (λ (j : Job). j.left) new, (new_job_lem r).2)))
      (story n (omega arith))

  -- ---- the orders
  -- in a slot before which it is done, or failed
  pub done_not : (m : ℕ) → m < n → (J m).state ≡ Done → (works (s + m) ≢ alternate k) × (works (s + m) ≢ primary k) × ((J (suc m)).state ≡ Done)
  done_not m l d = go (win.acts m l)
    where
      go : Slot m → (works (s + m) ≢ alternate k) × (works (s + m) ≢ primary k) × ((J (suc m)).state ≡ Done)
      go (rests p a e) = (
        λ w. let z : ◌≡◌ {A = ℕ} 0 1 = cc (ap (is_alternate k) w, alternate_is k) in omega arith,
        λ w. let z : ◌≡◌ {A = ℕ} 0 1 = cc (ap (is_primary k) w, primary_is k) in omega arith,
        ap (λ (j : Job). j.state) e ∙ d,
      )
      go (tries w x e) = absurd (waiting_not_done (sym x ∙ d))
      go (falls_back w x e) = absurd (omega (arith, done_left r (J m) d (win.fits m (omega arith))))

  pub failed_not : (m : ℕ) → m < n → (J m).state ≡ Failed → (works (s + m) ≢ primary k) × ((J (suc m)).state ≡ Failed)
  failed_not m l d = go (win.acts m l)
    where
      go : Slot m → (works (s + m) ≢ primary k) × ((J (suc m)).state ≡ Failed)
      go (rests p a e) = (λ w. let z : ◌≡◌ {A = ℕ} 0 1 = cc (ap (is_primary k) w, primary_is k) in omega arith, ap (λ (j : Job). j.state) e ∙ d)
      go (tries w x e) = absurd (waiting_not_failed (sym x ∙ d))
      go (falls_back w x e) = (
        λ v. let z : ◌≡◌ {A = ℕ} 0 1 = cc in omega arith,
        ap (λ (j : Job). j.state) e ∙ alternate_state (J m) (λ f. failed_not_done (sym d ∙ f)),
      )

  stays : (x : State) → ((m : ℕ) → m < n → (J m).state ≡ x → (J (suc m)).state ≡ x) → (m i : ℕ) → m ≤ i → i ≤ n → (J m).state ≡ x → (J i).state ≡ x
  stays x keeps m zero l u e = let q : m ≡ 0 = omega arith in rw q at e
  stays x keeps m (suc i) l u e =
      ⊎_elim (λ (q : m ≡ suc i). rw q at e) (λ (v : m < suc i). keeps i u (stays x keeps m i (omega arith) (omega arith) e)) (eq-or-lt_of_le l)

  -- done stays done, and failed failed
  pub stays_done : (m i : ℕ) → m ≤ i → i ≤ n → (J m).state ≡ Done → (J i).state ≡ Done
  stays_done m i l u e = stays Done (λ x b d. (done_not x b d).2) m i l u e

  pub stays_failed : (m i : ℕ) → m ≤ i → i ≤ n → (J m).state ≡ Failed → (J i).state ≡ Failed
  stays_failed m i l u e = stays Failed (λ x b d. (failed_not x b d).1) m i l u e

  pub becomes_done : (m : ℕ) → m < n → works (s + m) ≡ primary k → reports (s + m) ≡ 1 → (J (suc m)).state ≡ Done
  becomes_done m l w d = go (win.acts m l)
    where
      go : Slot m → (J (suc m)).state ≡ Done
      go (rests p a e) = let z : ◌≡◌ {A = ℕ} 0 1 = cc (ap (is_primary k) w, primary_is k) in absurd (omega arith)
      go (tries v x e) = ap (λ (j : Job). j.state) e ∙ ap (λ i. (on_primary i r (J m)).state) d ∙ (primary_done r (J m)).0
      go (falls_back v x e) = let z : ◌≡◌ {A = ℕ} 0 1 = cc in absurd (omega arith)

  pub becomes_failed : (m : ℕ) → m < n → works (s + m) ≡ alternate k → (J (suc m)).state ≡ Failed
  becomes_failed m l w = go (win.acts m l)
    where
      go : Slot m → (J (suc m)).state ≡ Failed
      go (rests p a e) = let z : ◌≡◌ {A = ℕ} 0 1 = cc (ap (is_alternate k) w, alternate_is k) in absurd (omega arith)
      go (tries v x e) = let z : ◌≡◌ {A = ℕ} 0 1 = cc in absurd (omega arith)
      go (falls_back v x e) =
          ap (λ (j : Job). j.state) e ∙ alternate_state (J m) (λ f. omega (arith, done_left r (J m) f (win.fits m (omega arith))))

  pub nothing_after_done : (m i : ℕ) → m < i → i < n → works (s + m) ≡ primary k → reports (s + m) ≡ 1 → (works (s + i) ≢ alternate k) × (works (s + i) ≢ primary k)
  nothing_after_done m i l u w d =
      let z = done_not i u (stays_done (suc m) i l (omega arith) (becomes_done m (omega arith) w d)) in
      (z.0, z.1)

  pub no_primary_after : (m i : ℕ) → m < i → i < n → works (s + m) ≡ alternate k → works (s + i) ≢ primary k
  no_primary_after m i l u w = (failed_not i u (stays_failed (suc m) i l (omega arith) (becomes_failed m (omega arith) w))).0
