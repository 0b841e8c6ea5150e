-- Lost units kept slot by slot are the sum over the jobs of the history.
-- Assumes nothing.
use Rattle.std.specs.Prelude.{Option, None}
use mathlib.Core.Path.{◌≡◌, sym, ap, ◌∙◌, subst}
use mathlib.Core.Logic.{◌⊎◌, inl, inr, ⊎_elim}
use mathlib.Core.Bool.{true, false}
use mathlib.Core.List.{List, [], ◌∷◌}
use Prim.Native.Nat.{ℕ, zero, suc, ◌+◌, ◌-◌, ◌≤◌, ◌<◌, min}
use native.Mathlib.Omega.{arith}
use lib.ListN.{length, get_or-eq_default}
use Rattle.refusal.specs.declared.Refusal.{Refusal}
use Rattle.refusal.specs.Order.{accepted, beside}
use Rattle.refusal.proofs.Order.{accepted_none, beside_not}
use Rattle.table.specs.declared.Row.{Row}
use Rattle.table.specs.Rows.{row_at}
use Rattle.table.specs.Windows.{opens, closes}
use Rattle.table.proofs.Good.{Good}
use Rattle.table.proofs.Windows.{closes_none, opens_after, opens_first}
use Rattle.rule.proofs.Tests.{split, side}
use Rattle.slots.specs.declared.Job.{Job}
use Rattle.slots.specs.declared.Record.{Record}
use Rattle.slots.specs.Records.{job_at}
use Rattle.slots.specs.OneSlot.{Work, idle, what, step_of}
use Rattle.slots.specs.Reports.{run_of, rec_after}
use Rattle.slots.specs.History.{work_of, logged, reported}
use Rattle.slots.specs.LostUnits.{sum, first_seen, lost_job, lost_units}
use Rattle.slots.specs.Course.{Course}
use Rattle.slots.specs.Turns.{loss_at, lost_by}
use Rattle.slots.proofs.SoundRecord.{Usable, Sound}
use Rattle.slots.proofs.SlotActs.{allowed_row}
use Rattle.slots.proofs.Passages.{job_in, job_in_lem, window}
use Rattle.slots.proofs.RunFacts.{after_none, after_first, run_whole, log_tells}
use Rattle.slots.proofs.RunCourse.{run_course}
use Rattle.slots.proofs.Sums.{sum_none, sum_front, sum_same, sum_swap, sum_parts}
use Rattle.slots.proofs.LostJobs.{loss_of, lost_in, lost_none, lost_idle, job_lost}
use Rattle.slots.proofs.LostRows.{loss_rows, by_none, by_more}

-- ---- each window of a row closes after the one before, and so window i at slot i or later
module _ (r : Row) (good : Good r) where
  closes_up : (i : ℕ) → closes r i < closes r (suc i)
  closes_up i = omega (arith, opens_after r good i, opens_first r good (suc i) (omega arith))

  closes_past : (i : ℕ) → i ≤ closes r i
  closes_past zero = omega arith
  closes_past (suc i) = omega (arith, closes_past i, closes_up i)

-- ---- slots from a on and before b, cut off at N
cut_none : (a b N : ℕ) → (b ≡ 0) ⊎ (N ≤ a) → min b N - min a N ≡ 0
cut_none a b N (inl z) = omega arith
cut_none a b N (inr l) = omega arith

module _ (a b N : ℕ) (l : a < N) where
  cut_start : min a N ≡ a
  cut_start = omega arith

  cut_many : a ≤ b → min b N - a ≡ min (b - a) (N - a)
  cut_many u = omega arith

  cut_few : (min (b - a) (N - a) ≤ b - a) × (a + min (b - a) (N - a) ≤ N)
  cut_few = (omega arith, omega arith)

  cut_past : (m : ℕ) → min (b - a) (N - a) ≤ m → m < b - a → N ≤ a + m
  cut_past m u v = omega arith

-- ---- a course of N slots from a sound record, and nothing runs in later ones
module _ (rs : List Row) (ok : Usable rs) (q : Record) (first : Sound rs q)
    (N : ℕ) (recs : ℕ → Record) (works : ℕ → Work) (reports : ℕ → ℕ) (course : Course rs q N recs works reports) (over : (t : ℕ) → N ≤ t → works t ≡ idle) where
  -- what slot t adds by row k
  abbrev adds : ℕ → ℕ → ℕ
  adds k t = loss_of (job_at (recs t).jobs k) k (works t)

  module _ (k : ℕ) (row : k < length rs) where
    abbrev r : Row
    r = row_at rs k

    good : Good (row_at rs k)
    good = ok.good k row

    -- the slot since q at which job i + 1's window opens, N where it does not come
    abbrev at : ℕ → ℕ
    at i = min (closes r i - q.clock) N

    module _ (i : ℕ) where
      -- the job's slots as `lost_job` has them
      abbrev s : ℕ
      s = opens r (suc i) - q.clock

      abbrev n : ℕ
      n = closes r (suc i) - q.clock - (opens r (suc i) - q.clock)

      abbrev lost : ℕ → ℕ
      lost m = lost_in works reports k r.primary s (first_seen rs q k (suc i)) m

      abbrev part : ℕ
      part = sum (λ m. adds k (at i + m)) (at (suc i) - at i)

      -- a job without slots
      none_lost : lost 0 ≡ 0
      none_lost = lost_none works reports k r.primary s (first_seen rs q k (suc i))

      part_none : (closes r (suc i) - q.clock ≡ 0) ⊎ (N ≤ closes r i - q.clock) → part ≡ 0
      part_none h = ap (sum (λ m. adds k (at i + m))) (cut_none (closes r i - q.clock) (closes r (suc i) - q.clock) N h) ∙ sum_none (λ m. adds k (at i + m))

      -- one that has its first d slots among the N
      slots_lost : q.clock < closes r (suc i) → (d : ℕ) → d ≤ n → s + d ≤ N → ((m : ℕ) → d ≤ m → m < n → N ≤ s + m) → sum (λ m. adds k (s + m)) d ≡ lost n
      slots_lost here d few inside past =
          let one : 1 ≤ suc i = omega arith in
          let J : ℕ → Job = job_in rs ok q first N recs works reports course k row (suc i) one here in
          sum_same (λ m. adds k (s + m)) (λ m. loss_of (J m) k (works (s + m))) d
          (λ m v. ap (λ (j : Job). loss_of j k (works (s + m))) (job_in_lem rs ok q first N recs works reports course k row (suc i) one here m (omega arith) (omega arith)))
          ∙ job_lost (window rs ok q first N recs works reports course k row (suc i) one here d few inside) d (omega arith)
          ∙ sym (lost_idle works reports k r.primary s (first_seen rs q k (suc i)) d n few (λ m u v. over (s + m) (past m u v)))

      part_some : s < N → q.clock < closes r (suc i) → part ≡ lost n
      part_some l here =
          let e : ℕ = closes r (suc i) - q.clock in
          let up : s ≤ e = omega (arith, opens_first r good (suc i) (omega arith)) in
          let a : at i ≡ s = ap (λ (x : ℕ). min (x - q.clock) N) (sym (opens_after r good i)) ∙ cut_start s e N l in
          let few : (min n (N - s) ≤ n) × (s + min n (N - s) ≤ N) = cut_few s e N l in
          ap (λ (x : ℕ). sum (λ m. adds k (x + m)) (at (suc i) - x)) a
          ∙ ap (sum (λ m. adds k (s + m))) (cut_many s e N l up)
          ∙ slots_lost here (min n (N - s)) few.0 few.1 (cut_past s e N l)

      part_lost : part ≡ lost_job rs q works reports k (suc i)
      unfolding lost_job
      part_lost =
          ⊎_elim (λ (l : s < N).
          ⊎_elim (λ (here : q.clock < closes r (suc i)). part_some l here)
          (λ (gone : closes r (suc i) ≤ q.clock).
          let z : 0 ≡ n = omega arith in
          part_none (inl (omega arith)) ∙ sym none_lost ∙ ap (λ (m : ℕ). lost m) z)
          (side q.clock (closes r (suc i))))
          (λ (l : N ≤ s).
          part_none (inr (omega (arith, opens_after r good i)))
          ∙ sym none_lost
          ∙ sym (lost_idle works reports k r.primary s (first_seen rs q k (suc i)) 0 n (omega arith) (λ m u v. over (s + m) (omega arith))))
          (side s N)

    row_lost : sum (adds k) N ≡ sum (λ i. lost_job rs q works reports k (suc i)) (q.clock + N)
    row_lost =
        let e : at (q.clock + N) ≡ N = omega (arith, closes_past r good (q.clock + N)) in
        sym (ap (sum (adds k)) e)
        ∙ sym (sum_parts (adds k) at (omega (arith, closes_none r good)) (λ i. omega (arith, closes_up r good i)) (q.clock + N))
        ∙ sum_same (λ i. part i) (λ i. lost_job rs q works reports k (suc i)) (q.clock + N) (λ i l. part_lost i)

  pub course_lost : sum (λ t. loss_at (recs t).jobs (works t)) N ≡ lost_units rs q works reports N
  unfolding lost_units
  course_lost =
      sum_same (λ t. loss_at (recs t).jobs (works t)) (λ t. sum (λ k. adds k t) (length rs)) N
      (λ t l. loss_rows rs (recs t).jobs (works t) (allowed_row rs (recs t) (works t) (course.allowed t l)))
      ∙ sum_swap (λ t k. adds k t) N (length rs)
      ∙ sum_same (λ k. sum (adds k) N) (λ k. sum (λ i. lost_job rs q works reports k (suc i)) (q.clock + N)) (length rs) (λ k l. row_lost k l)

-- ---- a list of reports, slot by slot
by_slots : (rs : List Row) (q : Record) (reps : List ℕ) → lost_by rs q reps ≡ sum (λ t. loss_at (rec_after rs q reps t).jobs (what rs (rec_after rs q reps t))) (length reps)
by_slots rs q [] = by_none rs q ∙ sym (sum_none (λ t. loss_at (rec_after rs q [] t).jobs (what rs (rec_after rs q [] t))))
by_slots rs q (rep ∷ reps) =
    let added : Record → ℕ = λ (p : Record). loss_at p.jobs (what rs p) in
    by_more rs q rep reps
    ∙ ap (λ (x : ℕ). added q + x)
    (by_slots rs (step_of rs q rep) reps
    ∙ sum_same (λ t. added (rec_after rs (step_of rs q rep) reps t)) (λ t. added (rec_after rs q (rep ∷ reps) (suc t))) (length reps)
    (λ t l. ap added (sym (after_first rs q rep reps t))))
    ∙ ap (λ (p : Record). added p + sum (λ t. added (rec_after rs q (rep ∷ reps) (suc t))) (length reps)) (sym (after_none rs q (rep ∷ reps)))
    ∙ sym (sum_front (λ t. added (rec_after rs q (rep ∷ reps) t)) (length reps))

-- kept slot by slot, the lost units of a list of which no report is refused are the sum over the jobs of its history
pub lost_sum : (rs : List Row) → Usable rs → (q : Record) → Sound rs q → (reps : List ℕ) → (run_of rs q reps).refusal ≡ None
    → lost_by rs q reps ≡ lost_units rs q (logged (run_of rs q reps).log) (reported reps) (length reps)
unfolding work_of
lost_sum rs ok q s reps h =
    let log : List ℕ = (run_of rs q reps).log in
    let whole : length log ≡ length reps = run_whole rs q reps h in
    let course : Course rs q (length reps) (rec_after rs q reps) (logged log) (reported reps)
    = subst (λ (n : ℕ). Course rs q n (rec_after rs q reps) (logged log) (reported reps)) whole (run_course rs ok.few q reps) in
    by_slots rs q reps
    ∙ sum_same (λ t. loss_at (rec_after rs q reps t).jobs (what rs (rec_after rs q reps t))) (λ t. loss_at (rec_after rs q reps t).jobs (logged log t)) (length reps)
    (λ t l. ap (loss_at (rec_after rs q reps t).jobs) (sym (log_tells rs ok.few q reps t (omega (arith, whole)))))
    ∙ course_lost rs ok q s (length reps) (rec_after rs q reps) (logged log) (reported reps) course (λ t l. ap work_of (get_or-eq_default log 0 (omega (arith, whole))))

-- and they are so beside the run's refusal, where both are 0 if a report is refused
pub lost_beside : (rs : List Row) → Usable rs → (q : Record) → Sound rs q → (reps : List ℕ) (f : Option Refusal) → f ≡ (run_of rs q reps).refusal
    → beside f (lost_by rs q reps) ≡ beside f (lost_units rs q (logged (run_of rs q reps).log) (reported reps) (length reps))
lost_beside rs ok q s reps f h =
    ⊎_elim (λ (z : accepted f ≡ true). ap (beside f) (lost_sum rs ok q s reps (sym h ∙ accepted_none f z)))
    (λ (z : accepted f ≡ false). sym (beside_not f _ z) ∙ beside_not f _ z) (split (accepted f))
