-- Lost units of one job: kept slot by slot they are those of its history. Nothing here knows of tables, records or reservations.
-- Assumes nothing.
use mathlib.Core.Path.{◌≡◌, refl, sym, ap, ap₂, ◌∙◌}
use mathlib.Core.Logic.{◌≢◌, ◌⊎◌, inl, inr, ⊎_elim}
use mathlib.Core.Bool.{Bool, true, false, cond}
use Prim.Native.Nat.{ℕ, zero, suc, ◌+◌, ◌≤◌, ◌<◌}
use native.Mathlib.Nat.{eq-or-lt_of_le}
use native.Mathlib.Omega.{arith}
use lib.Dec.{eqb}
use borrow.Author.Tests.{eq-eqb}
use Rattle.table.specs.declared.Row.{Row}
use Rattle.rule.specs.Slots.{unit}
use Rattle.rule.proofs.Tests.{never}
use Rattle.slots.specs.declared.State.{State}
use Rattle.slots.specs.declared.State.TheVariants.{Waiting, Failed, Done}
use Rattle.slots.specs.declared.Job.{Job}
use Rattle.slots.specs.Records.{new_job}
use Rattle.slots.specs.OneSlot.{Work, idle, primary, alternate, is_waiting, abandoned, on_primary, on_alternate}
use Rattle.slots.specs.History.{is_primary, is_alternate}
use Rattle.slots.specs.LostUnits.{Ending, going, past, done, failed, overran, aborted, by_report, ends_by, or_later, ended_at, units_run, ending_of, counts, sum}
use Rattle.slots.specs.Turns.{open_of}
use Rattle.slots.proofs.Acts.{Act, rests, tries, falls_back}
use Rattle.slots.proofs.JobFacts.{new_job_lem, primary_units, alternate_units}
use Rattle.slots.proofs.JobStory.{primary_is, primary_not, alternate_is, alternate_not, primaries_more, Window, units}
use Rattle.slots.proofs.Sums.{sum_none, sum_more}

-- ---- a job and one slot
-- what a slot with the work w adds to the lost units by row k's job j
unfoldable pub loss_of : Job → ℕ → Work → ℕ
loss_of j k w = cond (is_alternate k w) (open_of j) 0

open_waiting : (j : Job) → j.state ≡ Waiting → open_of j ≡ j.run
open_waiting j e = ap (λ (x : State). cond (is_waiting x) j.run 0) e

open_not : (j : Job) → j.state ≢ Waiting → open_of j ≡ 0
open_not j h = go j.state refl
  where
    go : (x : State) → j.state ≡ x → cond (is_waiting x) j.run 0 ≡ 0
    go Waiting e = absurd (h e)
    go Failed e = refl
    go Done e = refl

pub open_run : (j : Job) → open_of j ≤ j.run
open_run j = go (is_waiting j.state)
  where
    go : (b : Bool) → cond b j.run 0 ≤ j.run
    go true = omega arith
    go false = omega arith

pub open_new : (r : Row) → open_of (new_job r) ≡ 0
open_new r = omega (arith, open_run (new_job r), (new_job_lem r).1)

not_waiting : (x : State) → is_waiting x ≡ false → x ≢ Waiting
not_waiting x h e = never (ap is_waiting e) h

-- once its alternate has begun it doesn't wait
alternate_ends : (j : Job) → (on_alternate j).state ≢ Waiting
unfolding on_alternate
alternate_ends j = not_waiting (abandoned j.state) (go j.state)
  where
    go : (x : State) → is_waiting (abandoned x) ≡ false
    go Waiting = refl
    go Failed = refl
    go Done = refl

pub loss_not : (j : Job) (k : ℕ) (w : Work) → is_alternate k w ≡ false → loss_of j k w ≡ 0
unfolding loss_of
loss_not j k w h = ap (λ (b : Bool). cond b (open_of j) 0) h

pub loss_here : (j : Job) (k : ℕ) → loss_of j k (alternate k) ≡ open_of j
unfolding loss_of
loss_here j k = ap (λ (b : Bool). cond b (open_of j) 0) (alternate_is k)

-- a slot turns a job's open units into lost ones, and its primary adds one
pub loss_act : (k : ℕ) (w : Work) (rep : ℕ) (r : Row) (j j' : Job) → Act k w rep r j j' → loss_of j k w + open_of j' ≤ open_of j + unit (is_primary k w)
loss_act k w rep r j j' (rests p a e) = omega (arith, loss_not j k w a, ap (λ (x : Job). open_of x) e)
loss_act k w rep r j j' (tries v x e) =
    omega (
      arith,
      loss_not j k w (ap (is_alternate k) v ∙ primary_not k),
      ap (λ (v : Work). unit (is_primary k v)) v,
      ap unit (primary_is k),
      open_waiting j x,
      open_run j',
      ap (λ (x : Job). x.run) e,
      primary_units rep r j,
    )
loss_act k w rep r j j' (falls_back v x e) =
    omega (arith, ap (loss_of j k) v, loss_here j k, ap (λ (x : Job). open_of x) e, open_not (on_alternate j) (alternate_ends j))

-- ---- how a slot may end a job's primary
pub ends_not : (k p : ℕ) (w : Work) (rep u : ℕ) → is_primary k w ≡ false → is_alternate k w ≡ false → ends_by k p w rep u ≡ going
unfolding ends_by is_primary is_alternate
ends_not k p idle rep u x y = refl
ends_not k p (primary i) rep u x y = ap (λ (b : Bool). cond b (by_report rep p u) going) x
ends_not k p (alternate i) rep u x y = ap (λ (b : Bool). cond b aborted going) y

pub ends_tried : (k p rep u : ℕ) → ends_by k p (primary k) rep u ≡ by_report rep p u
unfolding ends_by
ends_tried k p rep u = ap (λ (b : Bool). cond b (by_report rep p u) going) (eq-eqb k k refl)

pub ends_fallen : (k p rep u : ℕ) → ends_by k p (alternate k) rep u ≡ aborted
unfolding ends_by
ends_fallen k p rep u = ap (λ (b : Bool). cond b aborted going) (eq-eqb k k refl)

-- ---- the first ending stands
abbrev is_going : Ending → Bool
is_going going = true
is_going past = false
is_going done = false
is_going failed = false
is_going overran = false
is_going aborted = false

not_going : (e : Ending) → is_going e ≡ false → e ≢ going
not_going e h q = never (ap is_going q) h

later_not : (e : Ending) → or_later e going ≡ e
later_not going = refl
later_not past = refl
later_not done = refl
later_not failed = refl
later_not overran = refl
later_not aborted = refl

later_first : (e x : Ending) → e ≢ going → or_later e x ≡ e
later_first going x h = absurd (h refl)
later_first past x h = refl
later_first done x h = refl
later_first failed x h = refl
later_first overran x h = refl
later_first aborted x h = refl

-- ---- a primary goes on just as long as its job waits
abbrev pub Together : State → Ending → Type 0
Together x e = ((x ≡ Waiting) × (e ≡ going)) ⊎ ((x ≢ Waiting) × (e ≢ going))

apart : (x : State) (e : Ending) → is_waiting x ≡ false → is_going e ≡ false → Together x e
apart x e h g = inr (not_waiting x h, not_going e g)

first_together : (x : State) → Together x (ended_at x)
first_together Waiting = inl (refl, refl)
first_together Failed = apart Failed past refl refl
first_together Done = apart Done past refl refl

report_together : (rep : ℕ) (r : Row) (j : Job) → Together (on_primary rep r j).state (by_report rep r.primary (suc j.run))
unfolding on_primary
report_together zero r j = let e : j.run + 1 ≡ suc j.run = omega arith in rw e (go (eqb (suc j.run) r.primary))
  where
    go : (b : Bool) → Together (cond b Failed Waiting) (cond b overran going)
    go true = apart Failed overran refl refl
    go false = inl (refl, refl)
report_together (suc zero) r j = apart Done done refl refl
report_together (suc (suc n)) r j = apart Failed failed refl refl

-- a report aborts nothing, and what had ended was not aborted in the history
report_not : (rep p u : ℕ) → counts (by_report rep p u) ≡ false
report_not zero p u = go (eqb u p)
  where
    go : (b : Bool) → counts (cond b overran going) ≡ false
    go true = refl
    go false = refl
report_not (suc zero) p u = refl
report_not (suc (suc n)) p u = refl

ended_not : (x : State) → counts (ended_at x) ≡ false
ended_not Waiting = refl
ended_not Failed = refl
ended_not Done = refl

-- ---- a job of row k, which has p primary units and is j at slot s, over the slots from there on
module _ (works : ℕ → Work) (reports : ℕ → ℕ) (k p s : ℕ) (j : Job) where
  -- its lost units in n of them
  abbrev pub lost_in : ℕ → ℕ
  lost_in n = cond (counts (ending_of works reports k p s j n)) (units_run works k s j n) 0

  abbrev ending : ℕ → Ending
  ending n = ending_of works reports k p s j n

  abbrev run : ℕ → ℕ
  run n = units_run works k s j n

  pub ending_none : ending 0 ≡ ended_at j.state
  unfolding ending_of
  ending_none = refl

  ending_more : (n : ℕ) → ending (suc n) ≡ or_later (ending n) (ends_by k p (works (s + n)) (reports (s + n)) (run (suc n)))
  unfolding ending_of
  ending_more n = refl

  run_more : (n : ℕ) → run (suc n) ≡ run n + unit (is_primary k (works (s + n)))
  unfolding units_run
  run_more n = omega (arith, primaries_more k works s n)

  lost_uncounted : (n : ℕ) → counts (ending n) ≡ false → lost_in n ≡ 0
  lost_uncounted n h = ap (λ (b : Bool). cond b (run n) 0) h

  -- none in no slot
  pub lost_none : lost_in 0 ≡ 0
  lost_none = lost_uncounted 0 (ap counts ending_none ∙ ended_not j.state)

  -- the lost units stay where the ending does and no primary unit runs
  lost_same : (n : ℕ) → ending (suc n) ≡ ending n → is_primary k (works (s + n)) ≡ false → lost_in (suc n) ≡ lost_in n
  lost_same n h x = ap₂ (λ (e : Ending) (u : ℕ). cond (counts e) u 0) h (omega (arith, run_more n, ap unit x))

  -- so in a slot in which row k doesn't run
  module _ (n : ℕ) (x : is_primary k (works (s + n)) ≡ false) (y : is_alternate k (works (s + n)) ≡ false) where
    pub ending_rests : ending (suc n) ≡ ending n
    ending_rests = ending_more n ∙ ap (or_later (ending n)) (ends_not k p (works (s + n)) (reports (s + n)) (run (suc n)) x y) ∙ later_not (ending n)

    lost_rests : lost_in (suc n) ≡ lost_in n
    lost_rests = lost_same n ending_rests x

  -- the slot that ends it, and any slot after that
  module _ (n : ℕ) where
    pub ending_tried : works (s + n) ≡ primary k → ending n ≡ going → ending (suc n) ≡ by_report (reports (s + n)) p (run (suc n))
    ending_tried v g =
        ending_more n
        ∙ ap₂ (λ (e : Ending) (w : Work). or_later e (ends_by k p w (reports (s + n)) (run (suc n)))) g v
        ∙ ends_tried k p (reports (s + n)) (run (suc n))

    pub ending_fallen : works (s + n) ≡ alternate k → ending n ≡ going → ending (suc n) ≡ aborted
    ending_fallen v g =
        ending_more n
        ∙ ap₂ (λ (e : Ending) (w : Work). or_later e (ends_by k p w (reports (s + n)) (run (suc n)))) g v
        ∙ ends_fallen k p (reports (s + n)) (run (suc n))

    pub ending_stays : ending n ≢ going → ending (suc n) ≡ ending n
    ending_stays h = ending_more n ∙ later_first (ending n) (ends_by k p (works (s + n)) (reports (s + n)) (run (suc n))) h

  -- idle slots after the n-th change nothing: a window that the history's end cuts off has the lost units of the whole
  pub lost_idle : (n d : ℕ) → n ≤ d → ((m : ℕ) → n ≤ m → m < d → works (s + m) ≡ idle) → lost_in d ≡ lost_in n
  unfolding is_primary is_alternate
  lost_idle n zero l h = let e : 0 ≡ n = omega arith in ap (λ (m : ℕ). lost_in m) e
  lost_idle n (suc d) l h =
      ⊎_elim (λ (e : n ≡ suc d). ap (λ (m : ℕ). lost_in m) (sym e))
      (λ (u : n < suc d).
      let rest : works (s + d) ≡ idle = h d (omega arith) (omega arith) in
      lost_rests d (ap (is_primary k) rest) (ap (is_alternate k) rest) ∙ lost_idle n d (omega arith) (λ m a b. h m a (omega arith)))
      (eq-or-lt_of_le l)

-- ---- over a window
module _ {k : ℕ} {r : Row} {s n : ℕ} {works : ℕ → Work} {reports : ℕ → ℕ} {j₀ : Job} {J : ℕ → Job} (win : Window k r s n works reports j₀ J) where
  abbrev ends_at : ℕ → Ending
  ends_at m = ending_of works reports k r.primary s j₀ m

  abbrev ran_by : ℕ → ℕ
  ran_by m = units_run works k s j₀ m

  abbrev lost : ℕ → ℕ
  lost m = lost_in works reports k r.primary s j₀ m

  abbrev loss : ℕ → ℕ
  loss m = loss_of (J m) k (works (s + m))

  -- the units run are the job's
  pub units_same : (m : ℕ) → m ≤ n → units_run works k s j₀ m ≡ (J m).run
  unfolding units_run
  units_same m l = omega (arith, units win m l)

  -- its primary goes on just as long as the job waits
  pub together : (m : ℕ) → m ≤ n → Together (J m).state (ending_of works reports k r.primary s j₀ m)
  together zero l = rw (ap (λ (j : Job). j.state) win.starts, ending_none works reports k r.primary s j₀) (first_together j₀.state)
  together (suc m) l = go (together m (omega arith)) (win.acts m l)
    where
      rep : ℕ
      rep = reports (s + m)

      state_is : (j : Job) → J (suc m) ≡ j → (J (suc m)).state ≡ j.state
      state_is j e = ap (λ (j : Job). j.state) e

      go : Together (J m).state (ends_at m) → Act k (works (s + m)) (reports (s + m)) r (J m) (J (suc m)) → Together (J (suc m)).state (ends_at (suc m))
      go h (rests x y e) = rw (state_is (J m) e, ending_rests works reports k r.primary s j₀ m x y) h
      go h (tries v x e) =
          let g : ends_at m ≡ going = ⊎_elim (λ z. z.1) (λ z. absurd (z.0 x)) h in
          let u : ran_by (suc m) ≡ suc (J m).run = omega (arith, units_same (suc m) l, ap (λ (j : Job). j.run) e, primary_units rep r (J m)) in
          rw (state_is (on_primary rep r (J m)) e, ending_tried works reports k r.primary s j₀ m v g, u) (report_together rep r (J m))
      go h (falls_back v x e) =
          inr (
            rw (state_is (on_alternate (J m)) e) (alternate_ends (J m)),
            ⊎_elim (λ z. not_going (ends_at (suc m)) (ap is_going (ending_fallen works reports k r.primary s j₀ m v z.1)))
                (λ z. rw (ending_stays works reports k r.primary s j₀ m z.1) z.1)
                h,
          )

  -- what a slot adds, and what all of them make up
  lost_more : (m : ℕ) → m < n → lost (suc m) ≡ lost m + loss m
  lost_more m l = go (win.acts m l)
    where
      w : Work
      w = works (s + m)

      not_lost : ends_at m ≡ going → lost m ≡ 0
      not_lost g = lost_uncounted works reports k r.primary s j₀ m (ap counts g)

      go : Act k (works (s + m)) (reports (s + m)) r (J m) (J (suc m)) → lost (suc m) ≡ lost m + loss m
      go (rests x y e) = omega (arith, loss_not (J m) k w y, lost_rests works reports k r.primary s j₀ m x y)
      go (tries v x e) =
          let g : ends_at m ≡ going = ⊎_elim (λ z. z.1) (λ z. absurd (z.0 x)) (together m (omega arith)) in
          let off : counts (ends_at (suc m)) ≡ false
          = ap counts (ending_tried works reports k r.primary s j₀ m v g) ∙ report_not (reports (s + m)) r.primary (ran_by (suc m)) in
          omega (arith, not_lost g, loss_not (J m) k w (ap (is_alternate k) v ∙ primary_not k), lost_uncounted works reports k r.primary s j₀ (suc m) off)
      go (falls_back v x e) =
          let here : loss m ≡ open_of (J m) = ap (loss_of (J m) k) v ∙ loss_here (J m) k in
          ⊎_elim (λ z.
          let all : lost (suc m) ≡ ran_by (suc m) = ap (λ (x : Ending). cond (counts x) (ran_by (suc m)) 0) (ending_fallen works reports k r.primary s j₀ m v z.1) in
          omega (arith, not_lost z.1, here, open_waiting (J m) z.0, all, units_same (suc m) l, ap (λ (j : Job). j.run) e, (alternate_units (J m)).0))
          (λ z.
          let same : lost (suc m) ≡ lost m
          = lost_same works reports k r.primary s j₀ m (ending_stays works reports k r.primary s j₀ m z.1) (ap (is_primary k) v ∙ alternate_not k) in
          omega (arith, here, open_not (J m) z.0, same))
          (together m (omega arith))

  pub job_lost : (m : ℕ) → m ≤ n
      → sum (λ i. loss_of (J i) k (works (s + i))) m ≡ cond (counts (ending_of works reports k r.primary s j₀ m)) (units_run works k s j₀ m) 0
  job_lost zero l = sum_none loss ∙ sym (lost_none works reports k r.primary s j₀)
  job_lost (suc m) l = omega (arith, sum_more loss m, job_lost m (omega arith), lost_more m l)
