-- Over any course of allowed work from the fresh record each job is served.
-- Assumes nothing.
use mathlib.Core.Path.{◌≡◌, refl, ap, ◌∙◌}
use mathlib.Core.Logic.{◌⊎◌, inl, inr, ⊎_elim}
use mathlib.Core.Bool.{Bool, true, false, cond}
use mathlib.Core.List.{List}
use Prim.Native.Nat.{ℕ, suc, ◌+◌, ◌-◌, ◌≤◌, ◌<◌}
use native.Mathlib.Omega.{arith}
use lib.Dec.{ltb}
use lib.ListN.{length}
use Rattle.table.specs.declared.Row.{Row}
use Rattle.table.specs.Rows.{row_at}
use Rattle.table.specs.Windows.{opens, closes}
use Rattle.table.proofs.Windows.{opens_first}
use Rattle.rule.proofs.Tests.{side}
use Rattle.slots.specs.declared.Job.{Job}
use Rattle.slots.specs.declared.Record.{Record}
use Rattle.slots.specs.Records.{new_job, job_at, fresh_jobs, fresh_of}
use Rattle.slots.specs.OneSlot.{Work}
use Rattle.slots.specs.History.{alternates}
use Rattle.slots.specs.LostUnits.{first_seen}
use Rattle.slots.specs.Course.{Course}
use Rattle.slots.proofs.Entries.{fresh_at}
use Rattle.slots.proofs.SoundRecord.{Usable}
use Rattle.slots.proofs.StaysSound.{fresh_sound}
use Rattle.slots.proofs.JobStory.{Window, DoneIn, primaries_none, alternates_none, ran_few, fell_few, at_end, nothing_after_done, no_primary_after}
use Rattle.slots.proofs.Passages.{job_in, window, last_left}
use Rattle.runs.specs.Demand3.{Finished, Served, AllServed}

fresh_clock : (rs : List Row) → (fresh_of rs).clock ≡ 0
unfolding fresh_of
fresh_clock rs = refl

fresh_jobs_lem : (rs : List Row) → (fresh_of rs).jobs ≡ fresh_jobs rs
unfolding fresh_of
fresh_jobs_lem rs = refl

-- each job is new as it is first seen
first_new : (rs : List Row) (k j : ℕ) → k < length rs → first_seen rs (fresh_of rs) k j ≡ new_job (row_at rs k)
unfolding first_seen
first_new rs k j row = go (ltb (fresh_of rs).clock (opens (row_at rs k) j))
  where
    go : (b : Bool) → cond b (new_job (row_at rs k)) (job_at (fresh_of rs).jobs k) ≡ new_job (row_at rs k)
    go true = refl
    go false = ap (λ (js : List Job). job_at js k) (fresh_jobs_lem rs) ∙ fresh_at rs k row

module _ (rs : List Row) (ok : Usable rs) (N : ℕ) (recs : ℕ → Record) (works : ℕ → Work) (reports : ℕ → ℕ) (c : Course rs (fresh_of rs) N recs works reports)
    (k : ℕ) (row : k < length rs) (j : ℕ) (one : 1 ≤ j) where
  abbrev r : Row
  r = row_at rs k

  -- the window
  abbrev s : ℕ
  s = opens (row_at rs k) j

  abbrev e : ℕ
  e = closes (row_at rs k) j

  opened : s < e
  opened = opens_first r (ok.good k row) j one

  here : (fresh_of rs).clock < closes (row_at rs k) j
  here = omega (arith, opened, fresh_clock rs)

  -- the job, slot by slot
  J : ℕ → Job
  J = job_in rs ok (fresh_of rs) (fresh_sound rs ok) N recs works reports c k row j one here

  -- counted from the fresh start, slots are absolute
  first_slot : s - (fresh_of rs).clock ≡ s
  first_slot = omega (arith, fresh_clock rs)

  length_of : e - (fresh_of rs).clock - (s - (fresh_of rs).clock) ≡ e - s
  length_of = omega (arith, fresh_clock rs)

  -- its story, over the first n slots of the window
  win : (n : ℕ) → s + n ≤ e → s + n ≤ N → Window k r s n works reports (new_job r) J
  unfolding J
  win n l u =
      let w = window rs ok (fresh_of rs) (fresh_sound rs ok) N recs works reports c k row j one here n
      (omega (arith, fresh_clock rs)) (omega (arith, fresh_clock rs)) in
      rw (first_slot, first_new rs k j row) at w

  -- after its last slot nothing is left
  none_left : e ≤ N → (J (e - s)).left ≡ 0
  unfolding J
  none_left l =
      let z = last_left rs ok (fresh_of rs) (fresh_sound rs ok) N recs works reports c k row j one here (omega (arith, opened, fresh_clock rs)) in
      rw length_of at z

  settled : e ≤ N → Finished k works reports s e ⊎ (alternates k works s e ≡ r.alternate)
  settled l =
      let q : s + (e - s) ≡ e = omega (arith, opened) in
      ⊎_elim (λ (f : DoneIn k works reports s (e - s)). inl (s + f.0, omega arith, omega (arith, f.1), f.2, f.3))
      (λ (f : alternates k works s (s + (e - s)) ≡ r.alternate). inr (rw q at f))
      (at_end (win (e - s) (omega arith) (omega arith)) refl (none_left l))

  -- slot t, counted from the window's first
  slot : (t : ℕ) → s ≤ t → s + (t - s) ≡ t
  slot t l = omega arith

  served : Served k r.primary r.alternate s e N works reports
  served = record {
    settled = settled;
    few_primaries = λ t l u. ⊎_elim (λ (b : t < s). omega (arith, primaries_none k works s t (omega arith)))
        (λ (b : s ≤ t). rw (slot t b) at (ran_few (win (t - s) (omega arith) (omega arith)) (t - s) (omega arith))) (side t s);
    few_alternates = λ t l u. ⊎_elim (λ (b : t < s). omega (arith, alternates_none k works s t (omega arith)))
        (λ (b : s ≤ t). rw (slot t b) at (fell_few (win (t - s) (omega arith) (omega arith)) (t - s) (omega arith))) (side t s);
    after_done = λ t u a b d f w x.
        rw (slot u (omega arith))
        at (nothing_after_done (win (suc (u - s)) (omega arith) (omega arith)) (t - s) (u - s) (omega arith) (omega arith) (rw (slot t a) w) (rw (slot t a) x));
    after_alternate = λ t u a b d f w.
        rw (slot u (omega arith)) at (no_primary_after (win (suc (u - s)) (omega arith) (omega arith)) (t - s) (u - s) (omega arith) (omega arith) (rw (slot t a) w));
  }

-- demand 3, whichever allowed work is chosen
pub course_served : (rs : List Row) → Usable rs → (N : ℕ) (recs : ℕ → Record) (works : ℕ → Work) (reports : ℕ → ℕ) → Course rs (fresh_of rs) N recs works reports
    → AllServed rs N works reports
unfolding AllServed
course_served rs ok N recs works reports c k row j one = served rs ok N recs works reports c k row j one

-- and of a job whose deadline has come: over its whole window its story in JobStory holds, and after it nothing is left
pub job_window : (rs : List Row) → Usable rs → (N : ℕ) (recs : ℕ → Record) (works : ℕ → Work) (reports : ℕ → ℕ) → Course rs (fresh_of rs) N recs works reports
    → (k : ℕ) → k < length rs → (j : ℕ) → 1 ≤ j → closes (row_at rs k) j ≤ N
    → (J : ℕ → Job)
    × Window k (row_at rs k) (opens (row_at rs k) j) (closes (row_at rs k) j - opens (row_at rs k) j) works reports (new_job (row_at rs k)) J
    × ((J (closes (row_at rs k) j - opens (row_at rs k) j)).left ≡ 0)
job_window rs ok N recs works reports c k row j one due =
    let o : opens (row_at rs k) j < closes (row_at rs k) j = opened rs ok N recs works reports c k row j one in (
      J rs ok N recs works reports c k row j one,
      win rs ok N recs works reports c k row j one (closes (row_at rs k) j - opens (row_at rs k) j) (omega arith) (omega arith),
      none_left rs ok N recs works reports c k row j one due,
    )
