-- One row's open job, slot by slot: a slot that runs a unit of the row tells of it what its unit does, and any other slot nothing.
-- Assumes nothing.
use mathlib.Core.Path.{◌≡◌, refl, sym, ap, ap₂, ◌∙◌}
use mathlib.Core.Bool.{Bool, true, false, cond}
use Prim.Native.Nat.{ℕ, zero, suc, ◌+◌, ◌-◌, ◌≤◌}
use native.Mathlib.Omega.{arith}
use lib.Dec.{eqb}
use Rattle.table.specs.declared.Row.{Row}
use Rattle.rule.specs.Slots.{unit}
use Rattle.rule.proofs.Tests.{never}
use Rattle.slots.specs.Records.{new_job}
use Rattle.slots.specs.OneSlot.{Work, idle, primary, alternate}
use Rattle.slots.specs.History.{is_primary, is_alternate, primaries}
use Rattle.slots.specs.LostUnits.{Ending, going, past, done, failed, overran, aborted, by_report, ends_by, or_later, units_run, ending_of}
use Rattle.slots.proofs.JobFacts.{new_job_lem}
use Rattle.slots.proofs.JobStory.{primary_is, alternate_not, primaries_more}
use Rattle.slots.proofs.LostJobs.{ends_not, ends_tried, ends_fallen}
use Rattle.bagreport.specs.declared.told.Ended.{Ended}
use Rattle.bagreport.specs.declared.told.Ended.TheVariants.{Going, Done, Failed, Aborted}
use Rattle.bagreport.specs.declared.told.Open.{Open}
use Rattle.bagreport.specs.Turns.{ended_of, or_ended, told_by, open_from}

-- ---- an ending that the history tells of: no job that starts in it had ended before
abbrev is_past : Ending → Bool
is_past going = false
is_past past = true
is_past done = false
is_past failed = false
is_past overran = false
is_past aborted = false

report_new : (rep p u : ℕ) → is_past (by_report rep p u) ≡ false
report_new zero p u = go (eqb u p)
  where
    go : (b : Bool) → is_past (cond b overran going) ≡ false
    go true = refl
    go false = refl
report_new (suc zero) p u = refl
report_new (suc (suc n)) p u = refl

ends_new : (k p : ℕ) (w : Work) (rep u : ℕ) → is_past (ends_by k p w rep u) ≡ false
unfolding ends_by
ends_new k p idle rep u = refl
ends_new k p (primary i) rep u = go (eqb i k)
  where
    go : (b : Bool) → is_past (cond b (by_report rep p u) going) ≡ false
    go true = report_new rep p u
    go false = refl
ends_new k p (alternate i) rep u = go (eqb i k)
  where
    go : (b : Bool) → is_past (cond b aborted going) ≡ false
    go true = refl
    go false = refl

later_new : (e x : Ending) → is_past e ≡ false → is_past x ≡ false → is_past (or_later e x) ≡ false
later_new going x h g = g
later_new past x h g = h
later_new done x h g = refl
later_new failed x h g = refl
later_new overran x h g = refl
later_new aborted x h g = refl

-- ---- as it is told, the first ending stands
later_ended : (e x : Ending) → is_past e ≡ false → ended_of (or_later e x) ≡ or_ended (ended_of e) (ended_of x)
later_ended going x h = refl
later_ended past x h = never refl h
later_ended done x h = refl
later_ended failed x h = refl
later_ended overran x h = refl
later_ended aborted x h = refl

stays_ended : (e : Ended) → or_ended e Going ≡ e
stays_ended Going = refl
stays_ended Done = refl
stays_ended Failed = refl
stays_ended Aborted = refl

-- ---- row k's job, whose window opens at slot s
module _ (works : ℕ → Work) (reports : ℕ → ℕ) (k : ℕ) (r : Row) (s : ℕ) where
  abbrev ending : ℕ → Ending
  ending n = ending_of works reports k r.primary s (new_job r) n

  abbrev ran : ℕ → ℕ
  ran n = primaries k works s (s + n)

  abbrev job_to : ℕ → Open
  job_to t = open_from works reports k r s t

  run_new : (n : ℕ) → units_run works k s (new_job r) n ≡ ran n
  unfolding units_run
  run_new n = omega (arith, (new_job_lem r).1)

  ending_new : (n : ℕ) → is_past (ending n) ≡ false
  unfolding ending_of new_job
  ending_new zero = refl
  ending_new (suc n) =
      later_new (ending n) (ends_by k r.primary (works (s + n)) (reports (s + n)) (units_run works k s (new_job r) (suc n))) (ending_new n)
      (ends_new k r.primary (works (s + n)) (reports (s + n)) (units_run works k s (new_job r) (suc n)))

  ended_more : (n : ℕ) → ended_of (ending (suc n)) ≡ or_ended (ended_of (ending n)) (ended_of (ends_by k r.primary (works (s + n)) (reports (s + n)) (ran (suc n))))
  unfolding ending_of
  ended_more n =
      later_ended (ending n) (ends_by k r.primary (works (s + n)) (reports (s + n)) (units_run works k s (new_job r) (suc n))) (ending_new n)
      ∙ ap (λ (u : ℕ). or_ended (ended_of (ending n)) (ended_of (ends_by k r.primary (works (s + n)) (reports (s + n)) u))) (run_new (suc n))

  -- after n slots
  open_after : (n : ℕ) → open_from works reports k r s (s + n) ≡ record { units = ran n; ended = ended_of (ending n) }
  unfolding open_from
  open_after n = let e : s + n - s ≡ n = omega arith in rw e refl

  -- ---- n slots after the window's opening, one slot more
  module _ (n : ℕ) where
    ended_by : (e : Ending) → ends_by k r.primary (works (s + n)) (reports (s + n)) (ran (suc n)) ≡ e
        → ended_of (ending (suc n)) ≡ or_ended (ended_of (ending n)) (ended_of e)
    ended_by e h = ended_more n ∙ ap (λ (x : Ending). or_ended (ended_of (ending n)) (ended_of x)) h

    open_more : (u : ℕ) (c : Ended) → ran (suc n) ≡ u → ended_of (ending (suc n)) ≡ c → open_from works reports k r s (s + suc n) ≡ record { units = u; ended = c }
    open_more u c h g = open_after (suc n) ∙ ap₂ (λ (x : ℕ) (y : Ended). record { units = x; ended = y }) h g

    rests_on : is_primary k (works (s + n)) ≡ false → is_alternate k (works (s + n)) ≡ false → job_to (s + suc n) ≡ job_to (s + n)
    rests_on x y =
        open_more (ran n) (ended_of (ending n)) (omega (arith, primaries_more k works s n, ap unit x))
        (ended_by going (ends_not k r.primary (works (s + n)) (reports (s + n)) (ran (suc n)) x y) ∙ stays_ended (ended_of (ending n)))
        ∙ sym (open_after n)

    tries_on : works (s + n) ≡ primary k → job_to (s + suc n) ≡ told_by (primary k) (reports (s + n)) r (job_to (s + n))
    unfolding told_by
    tries_on w =
        let u : ran (suc n) ≡ ran n + 1 = omega (arith, primaries_more k works s n, ap (λ (v : Work). unit (is_primary k v)) w, ap unit (primary_is k)) in
        let e : ends_by k r.primary (works (s + n)) (reports (s + n)) (ran (suc n)) ≡ by_report (reports (s + n)) r.primary (ran n + 1)
        = ap₂ (λ (v : Work) (x : ℕ). ends_by k r.primary v (reports (s + n)) x) w u ∙ ends_tried k r.primary (reports (s + n)) (ran n + 1) in
        open_more (ran n + 1) (or_ended (ended_of (ending n)) (ended_of (by_report (reports (s + n)) r.primary (ran n + 1)))) u
        (ended_by (by_report (reports (s + n)) r.primary (ran n + 1)) e)
        ∙ ap (told_by (primary k) (reports (s + n)) r) (sym (open_after n))

    falls_on : works (s + n) ≡ alternate k → job_to (s + suc n) ≡ told_by (alternate k) (reports (s + n)) r (job_to (s + n))
    unfolding told_by
    falls_on w =
        let u : ran (suc n) ≡ ran n = omega (arith, primaries_more k works s n, ap (λ (v : Work). unit (is_primary k v)) w, ap unit (alternate_not k)) in
        let e : ends_by k r.primary (works (s + n)) (reports (s + n)) (ran (suc n)) ≡ aborted
        = ap (λ (v : Work). ends_by k r.primary v (reports (s + n)) (ran (suc n))) w ∙ ends_fallen k r.primary (reports (s + n)) (ran (suc n)) in
        open_more (ran n) (or_ended (ended_of (ending n)) Aborted) u (ended_by aborted e)
        ∙ ap (told_by (alternate k) (reports (s + n)) r) (sym (open_after n))

  -- ---- slot t, of the window or after it
  module _ (t : ℕ) (l : s ≤ t) where
    slot_is : s + (t - s) ≡ t
    slot_is = omega arith

    next_is : s + suc (t - s) ≡ suc t
    next_is = omega arith

    pub open_rests : is_primary k (works t) ≡ false → is_alternate k (works t) ≡ false → open_from works reports k r s (suc t) ≡ open_from works reports k r s t
    open_rests x y =
        ap job_to (sym next_is)
        ∙ rests_on (t - s) (ap (λ (i : ℕ). is_primary k (works i)) slot_is ∙ x) (ap (λ (i : ℕ). is_alternate k (works i)) slot_is ∙ y)
        ∙ ap job_to slot_is

    pub open_tried : works t ≡ primary k → open_from works reports k r s (suc t) ≡ told_by (primary k) (reports t) r (open_from works reports k r s t)
    open_tried w =
        ap job_to (sym next_is) ∙ tries_on (t - s) (ap works slot_is ∙ w) ∙ ap (λ (i : ℕ). told_by (primary k) (reports i) r (job_to i)) slot_is

    pub open_fallen : works t ≡ alternate k → open_from works reports k r s (suc t) ≡ told_by (alternate k) (reports t) r (open_from works reports k r s t)
    open_fallen w =
        ap job_to (sym next_is) ∙ falls_on (t - s) (ap works slot_is ∙ w) ∙ ap (λ (i : ℕ). told_by (alternate k) (reports i) r (job_to i)) slot_is
