-- How one job was dosed: its ending, read slot by slot, says what demand 3's words say of it.
-- Assumes nothing.
use Rattle.std.specs.Prelude.{None}
use mathlib.Core.Path.{◌≡◌, refl, sym, ap, ◌∙◌, subst}
use mathlib.Core.Logic.{◌⊎◌, inl, inr, ◌↔◌, ⊎_elim}
use mathlib.Core.Bool.{Bool, true, false, cond}
use mathlib.Core.List.{List}
use Prim.Native.Nat.{ℕ, zero, suc, ◌+◌, ◌-◌, ◌≤◌, ◌<◌}
use native.Mathlib.Nat.{eq-or-lt_of_le}
use native.Mathlib.Omega.{arith}
use borrow.Author.Tests.{eqb-true, eq-eqb}
use lib.Dec.{eqb}
use lib.ListN.{length}
use Rattle.table.specs.declared.Row.{Row}
use Rattle.table.specs.Rows.{row_at}
use Rattle.table.specs.Windows.{opens, closes}
use Rattle.table.proofs.Windows.{opens_first}
use Rattle.rule.proofs.Tests.{never, false_if}
use Rattle.slots.specs.declared.State.TheVariants.{Waiting, Done}
use Rattle.slots.specs.declared.Job.{Job}
use Rattle.slots.specs.declared.Record.{Record}
use Rattle.slots.specs.Records.{new_job, fresh_of}
use Rattle.slots.specs.OneSlot.{Work, primary}
use Rattle.slots.specs.Reports.{run_of, rec_after}
use Rattle.slots.specs.History.{logged, reported, is_primary, primaries, alternates}
use Rattle.slots.specs.LostUnits.{Ending, going, overran, aborted, by_report, ended_at, units_run, ending_of}
use Rattle.slots.specs.Course.{Course}
use Rattle.slots.specs.Exactly.{ReportGives, AcceptedTo}
use Rattle.slots.proofs.JobFacts.{new_job_lem}
use Rattle.slots.proofs.Acts.{Act, rests, tries, falls_back}
use Rattle.slots.proofs.SoundRecord.{Usable}
use Rattle.slots.proofs.JobStory.{primary_is, Window, DoneIn, story, at_end, becomes_done, stays_done}
use Rattle.slots.proofs.LostJobs.{ending_none, ending_rests, ending_tried, ending_fallen, ending_stays, together}
use Rattle.slots.proofs.RunFacts.{run_whole}
use Rattle.slots.proofs.RunCourse.{run_course}
use Rattle.slots.proofs.ListsWhen.{list_stops}
use Rattle.runs.proofs.Courses.{job_window}
use Rattle.dosing.specs.Jobs.{by_primary, fell, ending_at}
use Rattle.dosing.specs.Meaning.{Modelled, Fixed, FellIn}

-- ---- what a report says
module _ (p u : ℕ) where
  pub report_done : (rep : ℕ) → by_primary (by_report rep p u) ≡ true → rep ≡ 1
  report_done zero h = absurd (go (eqb u p) h)
    where
      go : (b : Bool) → by_primary (cond b overran going) ≡ true → ⊥
      go true e = never e refl
      go false e = never e refl
  report_done (suc zero) h = refl
  report_done (suc (suc n)) h = never h refl

  pub done_report : (rep : ℕ) → rep ≡ 1 → by_primary (by_report rep p u) ≡ true
  done_report rep e = ap (λ (x : ℕ). by_primary (by_report x p u)) e

  -- 'Going on at the p-th unit makes it failed too, as an overrun.'
  pub report_fell : (rep : ℕ) → rep ≤ 2 → fell (by_report rep p u) ≡ true → (rep ≡ 2) ⊎ ((rep ≡ 0) × (u ≡ p))
  report_fell zero l h = inr (refl, go (eqb u p) refl h)
    where
      go : (b : Bool) → eqb u p ≡ b → fell (cond b overran going) ≡ true → u ≡ p
      go true e h = eqb-true u p e
      go false e h = never h refl
  report_fell (suc zero) l h = never h refl
  report_fell (suc (suc n)) l h = inl (omega arith)

  pub fell_report : (rep : ℕ) → (rep ≡ 2) ⊎ ((rep ≡ 0) × (u ≡ p)) → fell (by_report rep p u) ≡ true
  fell_report rep (inl e) = ap (λ (x : ℕ). fell (by_report x p u)) e
  fell_report rep (inr h) = ap (λ (x : ℕ). fell (by_report x p u)) h.0 ∙ ap (λ (b : Bool). fell (cond b overran going)) (eq-eqb u p h.1)

-- ---- a new job over its window, whichever work is chosen
module _ {k : ℕ} {r : Row} {s n : ℕ} {works : ℕ → Work} {reports : ℕ → ℕ} {J : ℕ → Job} (win : Window k r s n works reports (new_job r) J) where
  abbrev ending : ℕ → Ending
  ending m = ending_of works reports k r.primary s (new_job r) m

  -- counted from nothing
  units_are : (m : ℕ) → units_run works k s (new_job r) m ≡ primaries k works s (s + m)
  unfolding units_run
  units_are m = omega (arith, (new_job_lem r).1)

  first_going : ending 0 ≡ going
  first_going = ending_none works reports k r.primary s (new_job r) ∙ ap ended_at (new_job_lem r).0

  -- the report of a primary unit, its window's units counted up to it and with it
  abbrev report_at : ℕ → Ending
  report_at i = by_report (reports (s + i)) r.primary (primaries k works s (s + suc i))

  -- only a waiting job's primary runs
  waits_there : (m : ℕ) → m < n → works (s + m) ≡ primary k → (J m).state ≡ Waiting
  waits_there m l w = go (win.acts m l)
    where
      go : Act k (works (s + m)) (reports (s + m)) r (J m) (J (suc m)) → (J m).state ≡ Waiting
      go (rests x y e) = never (ap (is_primary k) w ∙ primary_is k) x
      go (tries v x e) = x
      go (falls_back v x e) = let z : ◌≡◌ {A = ℕ} 0 1 = cc in absurd (omega arith)

  going_there : (m : ℕ) → m < n → (J m).state ≡ Waiting → ending m ≡ going
  going_there m l x = ⊎_elim (λ z. z.1) (λ z. absurd (z.0 x)) (together win m (omega arith))

  -- so its report is its ending
  ends_there : (m : ℕ) → m < n → works (s + m) ≡ primary k → ending (suc m) ≡ report_at m
  ends_there m l w =
      ending_tried works reports k r.primary s (new_job r) m w (going_there m l (waits_there m l w)) ∙ ap (by_report (reports (s + m)) r.primary) (units_are (suc m))

  -- a test of endings that only a report can meet
  module _ (test : Ending → Bool) (not_going : test going ≡ false) (not_aborted : test aborted ≡ false) where
    -- one of the first m slots had such a report
    abbrev pub Told : ℕ → Type 0
    Told m = (i : ℕ) × (i < m) × (works (s + i) ≡ primary k) × (test (by_report (reports (s + i)) r.primary (primaries k works s (s + suc i))) ≡ true)

    told_found : (m : ℕ) → m ≤ n → test (ending m) ≡ true → Told m
    told_found zero l h = never h (ap test first_going ∙ not_going)
    told_found (suc m) l h = go (told_found m (omega arith)) (win.acts m l)
      where
        longer : Told m → Told (suc m)
        longer f = (f.0, omega (arith, f.1), f.2, f.3)

        go : (test (ending m) ≡ true → Told m) → Act k (works (s + m)) (reports (s + m)) r (J m) (J (suc m)) → Told (suc m)
        go ih (rests x y e) = longer (ih (sym (ap test (ending_rests works reports k r.primary s (new_job r) m x y)) ∙ h))
        go ih (tries v x e) = (m, omega arith, v, sym (ap test (ends_there m l v)) ∙ h)
        go ih (falls_back v x e) =
            ⊎_elim (λ z. never h (ap test (ending_fallen works reports k r.primary s (new_job r) m v z.1) ∙ not_aborted))
            (λ z. longer (ih (sym (ap test (ending_stays works reports k r.primary s (new_job r) m z.1)) ∙ h)))
            (together win m (omega arith))

    -- the first ending stands
    told_stands : (m : ℕ) → m ≤ n → Told m → test (ending m) ≡ true
    told_stands zero l f = absurd (omega (arith, f.1))
    told_stands (suc m) l f =
        ⊎_elim (λ (e : suc f.0 ≡ suc m).
        let q : f.0 ≡ m = omega arith in
        subst (λ (i : ℕ). test (ending (suc i)) ≡ true) q (ap test (ends_there f.0 (omega arith) f.2) ∙ f.3))
        (λ (u : suc f.0 < suc m).
        let before : test (ending m) ≡ true = told_stands m (omega arith) (f.0, omega arith, f.2, f.3) in
        ap test (ending_stays works reports k r.primary s (new_job r) m (λ g. never before (ap test g ∙ not_going))) ∙ before)
        (eq-or-lt_of_le f.1)

    pub told : (test (ending_of works reports k r.primary s (new_job r) n) ≡ true) ↔ Told n
    told = (told_found n (omega arith), told_stands n (omega arith))

  -- ---- its primary was reported done
  pub done_in : (by_primary (ending_of works reports k r.primary s (new_job r) n) ≡ true) ↔ DoneIn k works reports s n
  done_in = (
    λ h.
        let f = (told by_primary refl refl).0 h in
        (f.0, f.1, f.2, report_done r.primary (primaries k works s (s + suc f.0)) (reports (s + f.0)) f.3),
    λ f. (told by_primary refl refl).1 (f.0, f.1, f.2, done_report r.primary (primaries k works s (s + suc f.0)) (reports (s + f.0)) f.3),
  )

  -- and then its alternate did not run
  pub done_alone : DoneIn k works reports s n → alternates k works s (s + n) ≡ 0
  done_alone f =
      let d : (J n).state ≡ Done = stays_done win (suc f.0) n f.1 (omega arith) (becomes_done win f.0 f.1 f.2 f.3) in
      ⊎_elim (λ z. z.1) (λ z. absurd (z.0 d)) (story win n (omega arith))

  -- ---- its primary was reported failed, or overran
  abbrev pub Falls : ℕ → Type 0
  Falls i = (reports (s + i) ≡ 2) ⊎ ((reports (s + i) ≡ 0) × (primaries k works s (s + suc i) ≡ r.primary))

  pub fell_in : ((i : ℕ) → i < n → reports (s + i) ≤ 2)
      → (fell (ending_of works reports k r.primary s (new_job r) n) ≡ true) ↔ ((i : ℕ) × (i < n) × (works (s + i) ≡ primary k) × Falls i)
  fell_in heard = (
    λ h.
        let f = (told fell refl refl).0 h in
        (f.0, f.1, f.2, report_fell r.primary (primaries k works s (s + suc f.0)) (reports (s + f.0)) (heard f.0 f.1) f.3),
    λ f. (told fell refl refl).1 (f.0, f.1, f.2, fell_report r.primary (primaries k works s (s + suc f.0)) (reports (s + f.0)) f.3),
  )

-- ---- N slots from a fresh start, of any allowed work and with accepted reports
pub record FromFresh (rs : List Row) (N : ℕ) (works : ℕ → Work) (reports : ℕ → ℕ) : Type 0 where
  pub usable : Usable rs
  pub recs : ℕ → Record
  pub course : Course rs (fresh_of rs) N recs works reports
  pub heard : (t : ℕ) → t < N → reports t ≤ 2

-- a run of which no report is refused
pub run_from_fresh : (rs : List Row) → Usable rs → (reps : List ℕ) → (run_of rs (fresh_of rs) reps).refusal ≡ None
    → FromFresh rs (length reps) (logged (run_of rs (fresh_of rs) reps).log) (reported reps)
unfolding AcceptedTo ReportGives
run_from_fresh rs ok reps none =
    let log : List ℕ = (run_of rs (fresh_of rs) reps).log in
    let whole : length log ≡ length reps = run_whole rs (fresh_of rs) reps none in
    record {
      usable = ok;
      recs = rec_after rs (fresh_of rs) reps;
      course = subst (λ (n : ℕ). Course rs (fresh_of rs) n (rec_after rs (fresh_of rs) reps) (logged log) (reported reps)) whole (run_course rs ok.few (fresh_of rs) reps);
      heard = λ t l.
          ⊎_elim (λ (e : reported reps t ≡ 0). omega arith)
          (λ h. ⊎_elim (λ (e : reported reps t ≡ 1). omega arith) (λ (e : reported reps t ≡ 2). omega arith) h.0)
          ((list_stops rs (fresh_of rs) reps).accepted t (omega arith));
    }

-- ---- a job whose deadline has come
module _ {rs : List Row} {N : ℕ} {works : ℕ → Work} {reports : ℕ → ℕ} (h : FromFresh rs N works reports) (k : ℕ) (row : k < length rs)
    (j : ℕ) (one : 1 ≤ j) (due : closes (row_at rs k) j ≤ N) where
  abbrev r : Row
  r = row_at rs k

  abbrev s : ℕ
  s = opens (row_at rs k) j

  abbrev e : ℕ
  e = closes (row_at rs k) j

  opened : s < e
  opened = opens_first r (h.usable.good k row) j one

  ends : s + (e - s) ≡ e
  ends = omega (arith, opened)

  -- the job, slot by slot
  J : ℕ → Job
  J = (job_window rs h.usable N h.recs works reports h.course k row j one due).0

  win : Window k r s (e - s) works reports (new_job r) J
  unfolding J
  win = (job_window rs h.usable N h.recs works reports h.course k row j one due).1

  none_left : (J (e - s)).left ≡ 0
  unfolding J
  none_left = (job_window rs h.usable N h.recs works reports h.course k row j one due).2

  -- slot t, counted from the window's first
  slot : (t : ℕ) → s ≤ t → s + (t - s) ≡ t
  slot t l = omega arith

  done_modelled : DoneIn k works reports s (e - s) → Modelled rs works reports k j
  done_modelled f = (s + f.0, omega arith, omega (arith, f.1, ends), f.2, f.3)

  modelled_done : Modelled rs works reports k j → DoneIn k works reports s (e - s)
  modelled_done f = (f.0 - s, omega (arith, f.1, f.2), rw (slot f.0 f.1) f.3, rw (slot f.0 f.1) f.4)

  -- 'by primary' is: its primary was reported done inside its own window
  pub by_primary_lem : (by_primary (ending_at rs works reports k j) ≡ true) ↔ Modelled rs works reports k j
  unfolding ending_at
  by_primary_lem = (λ b. done_modelled ((done_in win).0 b), λ m. (done_in win).1 (modelled_done m))

  -- there is no third way, and no job goes both
  pub no_third_way : Modelled rs works reports k j ⊎ Fixed rs works reports k j
  no_third_way =
      ⊎_elim (λ (f : DoneIn k works reports s (e - s)). inl (done_modelled f))
      (λ (f : alternates k works s (s + (e - s)) ≡ r.alternate). inr (rw ends at f)) (at_end win refl none_left)

  pub not_both : Modelled rs works reports k j → Fixed rs works reports k j → ⊥
  not_both m f =
      let z : alternates k works s (s + (e - s)) ≡ 0 = done_alone win (modelled_done m) in
      let y : alternates k works s e ≡ 0 = rw ends at z in
      omega (arith, f, y, (h.usable.good k row).alternate)

  -- so 'by alternate' is: its full alternate time ran inside that window
  pub by_alternate_lem : (by_primary (ending_at rs works reports k j) ≡ false) ↔ Fixed rs works reports k j
  by_alternate_lem = (
    λ b. ⊎_elim (λ m. never (by_primary_lem.1 m) b) (λ f. f) no_third_way,
    λ f. false_if (by_primary (ending_at rs works reports k j)) (λ b. not_both (by_primary_lem.0 b) f),
  )

  -- 'reported failed or overrun'
  pub fell_is : (fell (ending_at rs works reports k j) ≡ true) ↔ FellIn rs works reports k j
  unfolding ending_at
  fell_is = (
    λ b.
        let f = (fell_in win heard).0 b in
        let q : s + suc f.0 ≡ suc (s + f.0) = omega arith in
        (s + f.0, omega arith, omega (arith, f.1, ends), f.2, rw q at f.3),
    λ f.
        let a : s ≤ f.0 = f.1 in
        let q : s + suc (f.0 - s) ≡ suc f.0 = omega arith in
        (fell_in win heard).1 (f.0 - s, omega (arith, f.2), rw (slot f.0 a) f.3, rw (slot f.0 a, q) f.4),
  )
    where
      heard : (i : ℕ) → i < e - s → reports (s + i) ≤ 2
      heard i l = h.heard (s + i) (omega (arith, due, ends))
