-- A course of allowed work from a sound record: each record, the clock, and each job over its window.
-- Assumes nothing.
use mathlib.Core.Path.{◌≡◌, sym, ap, ◌∙◌}
use mathlib.Core.Logic.{⊎_elim}
use mathlib.Core.Bool.{Bool, true, false, cond}
use mathlib.Core.List.{List}
use Prim.Native.Nat.{ℕ, zero, suc, ◌+◌, ◌-◌, ◌%◌, ◌≤◌, ◌<◌, ◌∣◌}
use native.Mathlib.Nat.{eq-or-lt_of_le, mod_self, mod-lt, mod-eq_of_lt, suc-mod}
use native.Mathlib.Omega.{arith}
use lib.ListN.{length}
use borrow.Author.Tests.{lt-ltb, le-ltb}
use Rattle.table.specs.declared.Row.{Row}
use Rattle.table.specs.Rows.{row_at, cycle_of}
use Rattle.table.specs.Windows.{opens, closes, starts}
use Rattle.table.proofs.Good.{Good}
use Rattle.table.proofs.Cycle.{cycle_multiple}
use Rattle.table.proofs.Windows.{opens_first, starts_open, starts_not, ends_close}
use Rattle.rule.proofs.Tests.{side}
use Rattle.reserve.specs.Tables.{ends}
use Rattle.slots.specs.declared.Job.{Job}
use Rattle.slots.specs.declared.Record.{Record}
use Rattle.slots.specs.Records.{new_job, job_at}
use Rattle.slots.specs.Sound.{job_fits}
use Rattle.slots.specs.OneSlot.{Work, worked, next_clock, renewed}
use Rattle.slots.specs.LostUnits.{first_seen}
use Rattle.slots.specs.Course.{Course}
use Rattle.slots.proofs.Entries.{worked_length, renewed_start, renewed_on}
use Rattle.slots.proofs.SoundRecord.{Usable, Sound}
use Rattle.slots.proofs.SlotActs.{act_of, still_fits, none_left}
use Rattle.slots.proofs.NextRecord.{next_goes, next_wraps, step_at}
use Rattle.slots.proofs.StaysSound.{step_by_sound}
use Rattle.slots.proofs.JobStory.{Window}

-- the clock, as the time modulo the cycle L, goes on with the time
next_mod : (L t : ℕ) → 0 < L → next_clock L (t % L) ≡ suc t % L
next_mod L t pos =
    ⊎_elim (λ (e : suc (t % L) ≡ L). next_wraps L (t % L) e ∙ sym (suc-mod t L ∙ ap (λ (x : ℕ). x % L) e ∙ mod_self L))
    (λ (l : suc (t % L) < L). next_goes L (t % L) l ∙ sym (suc-mod t L ∙ mod-eq_of_lt l)) (eq-or-lt_of_le (mod-lt t pos))

module _ (rs : List Row) (ok : Usable rs) (q : Record) (first : Sound rs q)
    (N : ℕ) (recs : ℕ → Record) (works : ℕ → Work) (reports : ℕ → ℕ) (course : Course rs q N recs works reports) where
  -- each record is sound
  pub course_sound : (t : ℕ) → t ≤ N → Sound rs (recs t)
  course_sound zero l = rw course.begins first
  course_sound (suc t) l = rw (course.goes t l) (step_by_sound rs ok (recs t) (works t) (reports t) (course.allowed t l) (course_sound t (omega arith)))

  abbrev L : ℕ
  L = cycle_of rs

  abbrev c : ℕ
  c = q.clock

  next_record : (t : ℕ) → t < N → (recs t).clock ≡ (c + t) % L
      → recs (suc t) ≡ record { clock = (c + suc t) % L; jobs = renewed ((c + suc t) % L) rs (worked (works t) (reports t) rs (recs t).jobs) }
  next_record t l now =
      course.goes t l
      ∙ step_at rs (recs t) (works t) (reports t) ((c + suc t) % L) (ap (next_clock L) now ∙ next_mod L (c + t) ok.cycle ∙ ap (λ (x : ℕ). x % L) (omega arith))

  -- its clock is the time since q, modulo the cycle
  pub course_clock : (t : ℕ) → t ≤ N → (recs t).clock ≡ (q.clock + t) % cycle_of rs
  course_clock zero l = ap (λ (p : Record). p.clock) course.begins ∙ sym (ap (λ (x : ℕ). x % L) (omega arith) ∙ mod-eq_of_lt first.ticks)
  course_clock (suc t) l = ap (λ (p : Record). p.clock) (next_record t l (course_clock t (omega arith)))

  -- ---- row k's job
  module _ (k : ℕ) (row : k < length rs) where
    abbrev r : Row
    r = row_at rs k

    good : Good (row_at rs k)
    good = ok.good k row

    turns : (row_at rs k).period ∣ cycle_of rs
    turns = cycle_multiple rs k row

    abbrev job : ℕ → Job
    job t = job_at (recs t).jobs k

    -- after the unit of slot t, before a new window may start
    abbrev after : ℕ → Job
    after t = job_at (worked (works t) (reports t) rs (recs t).jobs) k

    next_job : (t : ℕ) → t < N → job (suc t) ≡ job_at (renewed ((c + suc t) % L) rs (worked (works t) (reports t) rs (recs t).jobs)) k
    next_job t l = ap (λ (p : Record). job_at p.jobs k) (next_record t l (course_clock t (omega arith)))

    -- where no window starts the job goes on, and where one does there is a new one
    job_on : (t : ℕ) → t < N → starts r ((c + suc t) % L) ≡ false → job (suc t) ≡ after t
    job_on t l h = next_job t l ∙ renewed_on ((c + suc t) % L) rs (worked (works t) (reports t) rs (recs t).jobs) k h

    job_new : (t : ℕ) → t < N → starts r ((c + suc t) % L) ≡ true → job (suc t) ≡ new_job r
    job_new t l h =
        next_job t l
        ∙ renewed_start ((c + suc t) % L) rs (worked (works t) (reports t) rs (recs t).jobs) k row
        (omega (arith, row, ok.few, (course_sound t (omega arith)).sixteen, worked_length (reports t) rs (recs t).jobs (works t))) h

    -- ---- over the window of job j, which has not closed at q: its first slot since q, and how many there are from it on
    module _ (j : ℕ) (one : 1 ≤ j) (here : q.clock < closes (row_at rs k) j) where
      abbrev pub from : ℕ
      from = opens (row_at rs k) j - q.clock

      abbrev pub long : ℕ
      long = closes (row_at rs k) j - q.clock - (opens (row_at rs k) j - q.clock)

      -- the job before the m-th of them, counted from 0, and after the last
      unfoldable pub job_in : ℕ → Job
      job_in zero = job from
      job_in (suc m) = after (from + m)

      some : 0 < long
      some = omega (arith, here, opens_first r good j one)

      -- it is the record's, as long as the window lasts
      pub job_in_lem : (m : ℕ) → m < long → from + m ≤ N → job (from + m) ≡ job_in m
      unfolding job_in
      job_in_lem zero l u = let e : from + 0 ≡ from = omega arith in ap job e
      job_in_lem (suc m) l u =
          let e : from + suc m ≡ suc (from + m) = omega arith in
          ap job e ∙ job_on (from + m) (omega arith) (starts_not r good L turns j (c + suc (from + m)) one (omega arith) (omega arith))

      -- and at first it is new, or the one open in q
      first_job : from ≤ N → job from ≡ first_seen rs q k j
      unfolding first_seen
      first_job u =
          ⊎_elim (λ (b : c < opens r j).
          let e : suc (opens r j - c - 1) ≡ from = omega arith in
          let o : opens r j ≡ c + suc (opens r j - c - 1) = omega arith in
          ap job (sym e)
          ∙ job_new (opens r j - c - 1) (omega arith) (rw o at (starts_open r good L turns j one))
          ∙ sym (ap (λ (x : Bool). cond x (new_job r) (job_at q.jobs k)) (lt-ltb c (opens r j) b)))
          (λ (b : opens r j ≤ c).
          let e : from ≡ 0 = omega arith in
          ap job e ∙ ap (λ (p : Record). job_at p.jobs k) course.begins ∙ sym (ap (λ (x : Bool). cond x (new_job r) (job_at q.jobs k)) (le-ltb c (opens r j) b)))
          (side c (opens r j))

      -- so its story in JobStory holds
      pub window : (n : ℕ) → n ≤ long → from + n ≤ N → Window k (row_at rs k) from n works reports (first_seen rs q k j) job_in
      unfolding job_in
      window n l u = record {
        starts = first_job (omega arith);
        acts = λ m b.
            rw (← job_in_lem m (omega arith) (omega arith))
            (act_of rs ok (recs (from + m)) (course_sound (from + m) (omega arith)) k row (reports (from + m)) (works (from + m)) (course.allowed (from + m) (omega arith)));
        fits = fits;
      }
        where
          fits : (m : ℕ) → m ≤ n → job_fits (row_at rs k) (job_in m) ≡ true
          fits zero b = (course_sound from (omega arith)).jobs_fit_lem k row
          fits (suc m) b =
              still_fits rs ok (recs (from + m)) (course_sound (from + m) (omega arith)) k row (reports (from + m)) (works (from + m)) (course.allowed (from + m) (omega arith))

      -- after the window's last slot nothing is left
      pub last_left : from + long ≤ N → (job_in long).left ≡ 0
      unfolding job_in ends
      last_left u = go (long - 1) (omega (arith, some))
        where
          go : (m : ℕ) → suc m ≡ long → (job_in long).left ≡ 0
          go m e =
              let now : (recs (from + m)).clock ≡ (c + (from + m)) % L = course_clock (from + m) (omega arith) in
              ap (λ (x : ℕ). (job_in x).left) (sym e)
              ∙ none_left rs ok (recs (from + m)) (course_sound (from + m) (omega arith)) k row (reports (from + m)) (works (from + m)) (course.allowed (from + m) (omega arith))
              (rw now (ends_close r good L turns j (c + (from + m)) one (omega arith)))
