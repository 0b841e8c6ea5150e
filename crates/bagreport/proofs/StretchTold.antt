-- A stretch of slots in which no window ends but at its end: what is told, counted and marked after it, where the windows that end there are closed.
-- Assumes nothing.
use mathlib.Core.Path.{◌≡◌, sym, ap, ap₂, ◌∙◌}
use mathlib.Core.Logic.{⊎_elim}
use mathlib.Core.Bool.{Bool, true, false, cond, ◌&&◌}
use mathlib.Core.List.{List}
use Prim.Native.Nat.{ℕ, ◌+◌, ◌-◌, ◌≤◌, ◌<◌}
use native.Mathlib.Omega.{arith}
use lib.Dec.{ltb}
use borrow.Author.Tests.{lt-ltb}
use lib.ListN.{length, get_or}
use Rattle.table.specs.declared.Row.{Row}
use Rattle.table.specs.declared.Table.{Table}
use Rattle.table.specs.Rows.{used, row_at}
use Rattle.table.specs.Windows.{starts, window_end}
use Rattle.rule.specs.Slots.{unit}
use Rattle.rule.proofs.Tests.{split, side}
use Rattle.slots.specs.Records.{new_job}
use Rattle.slots.specs.OneSlot.{Work}
use Rattle.slots.specs.History.{reported}
use Rattle.slots.specs.LostUnits.{Ending, ending_of}
use Rattle.dosing.specs.Jobs.{any, by_primary, fell, ending_at, jobs_due}
use Rattle.dosing.specs.Turns.{job_in, start_of}
use Rattle.dosing.proofs.JobWindows.{starts_is, start_same, starts_end, starts_inside}
use Rattle.dosing.proofs.Due.{ending_at_lem, due_same, due_closes}
use Rattle.bagreport.specs.declared.told.Open.{Open}
use Rattle.bagreport.specs.declared.due.Counts.{Counts}
use Rattle.bagreport.specs.Answers.{works_of}
use Rattle.bagreport.specs.Turns.{ended_of, no_open, open_from, Told, no_counts, counted_by, counts_to, Counted}
use Rattle.bagreport.proofs.Closing.{ClosedAt}
use Rattle.bagreport.proofs.JobCounted.{counted_is, open_new}

-- ---- one row, whose window at slot a ends no earlier than slot b
module _ (rs : List Row) (works : ℕ → Work) (reports : ℕ → ℕ) (k : ℕ) (long : 0 < (row_at rs k).period) (a b : ℕ) (later : a < b) (near : b ≤ window_end (row_at rs k) a) where
  abbrev r : Row
  r = row_at rs k

  abbrev due : (Ending → Bool) → ℕ → ℕ → ℕ
  due test s e = jobs_due rs works reports test k s e

  -- the ending of the job whose window slot a is in, after slot b
  abbrev ending : Ending
  ending = ending_of works reports k (row_at rs k).primary (start_of (row_at rs k) a) (new_job (row_at rs k)) (b - start_of (row_at rs k) a)

  -- its window has ended
  module _ (h : starts (row_at rs k) b ≡ true) where
    is_end : b ≡ window_end r a
    is_end = starts_end r long a b later near h

    is_ending : ending_at rs works reports k (job_in r a) ≡ ending
    is_ending = ending_at_lem rs works reports k a ∙ ap (λ (e : ℕ). ending_of works reports k r.primary (start_of r a) (new_job r) (e - start_of r a)) (sym is_end)

    pub due_more : (test : Ending → Bool) (s : ℕ) → jobs_due rs works reports test k s b ≡ jobs_due rs works reports test k s a + unit (ltb s b && test ending)
    due_more test s =
        ap (due test s) is_end
        ∙ due_closes rs works reports k test long s a
        ∙ ap₂ (λ (e : ℕ) (x : Ending). due test s a + unit (ltb s e && test x)) (sym is_end) is_ending

    pub open_anew : no_open ≡ open_from works reports k (row_at rs k) (start_of (row_at rs k) b) b
    open_anew = sym (ap (λ (s : ℕ). open_from works reports k r s b) (starts_is r b h) ∙ open_new works reports k r b)

  -- its window goes on
  module _ (h : starts (row_at rs k) b ≡ false) where
    pub not_end : b < window_end (row_at rs k) a
    not_end = starts_inside r long a b later near h

    pub same_start : start_of (row_at rs k) a ≡ start_of (row_at rs k) b
    same_start = sym (start_same r long a b (omega arith) not_end)

    pub due_still : (test : Ending → Bool) (s : ℕ) → jobs_due rs works reports test k s b ≡ jobs_due rs works reports test k s a
    due_still test s = due_same rs works reports k test long s a b (omega arith) not_end

-- ---- the table's rows
module _ (t : Table) (reps : List ℕ) (a b : ℕ) (later : a < b)
    (long : (k : ℕ) → k < length (used t) → 0 < (row_at (used t) k).period)
    (near : (k : ℕ) → k < length (used t) → b ≤ window_end (row_at (used t) k) a)
    (os os' : List Open) (cs cs' : List Counts) (told : Told t reps a b os) (closed : ClosedAt (used t) b os cs os' cs') where
  abbrev row : ℕ → Row
  row k = row_at (used t) k

  abbrev works : ℕ → Work
  works = works_of t reps

  -- how row k's job, whose window slot a is in, has ended after slot b
  abbrev ended : ℕ → Ending
  ended k = ending_of works (reported reps) k (row k).primary (start_of (row k) a) (new_job (row k)) (b - start_of (row k) a)

  pub ended_code : (k : ℕ) → k < length (used t) → (get_or os k no_open).ended ≡ ended_of (ended k)
  unfolding open_from
  ended_code k l = ap (λ (o : Open). o.ended) (told.each k l)

  pub told_after : Told t reps b b os'
  told_after = record {
    sixteen = closed.size ∙ told.sixteen;
    each = λ k l.
        closed.opens k l
        ∙ ⊎_elim (λ (h : starts (row k) b ≡ true).
        ap (λ (x : Bool). cond x no_open (get_or os k no_open)) h ∙ open_anew (used t) works (reported reps) k (long k l) a b later (near k l) h)
        (λ (h : starts (row k) b ≡ false).
        ap (λ (x : Bool). cond x no_open (get_or os k no_open)) h
        ∙ told.each k l
        ∙ ap (λ (s : ℕ). open_from works (reported reps) k (row k) s b) (same_start (used t) works (reported reps) k (long k l) a b later (near k l) h))
        (split (starts (row k) b));
    few = λ k.
        let most : (get_or os k no_open).units ≤ b = told.few k in
        ⊎_elim (λ (l : k < length (used t)).
        ⊎_elim (λ (h : starts (row k) b ≡ true). omega (arith, ap (λ (o : Open). o.units) (closed.opens k l ∙ ap (λ (x : Bool). cond x no_open (get_or os k no_open)) h)))
        (λ (h : starts (row k) b ≡ false). omega (arith, most, ap (λ (o : Open). o.units) (closed.opens k l ∙ ap (λ (x : Bool). cond x no_open (get_or os k no_open)) h)))
        (split (starts (row k) b)))
        (λ (l : length (used t) ≤ k). omega (arith, most, ap (λ (o : Open). o.units) (closed.rest k l)))
        (side k (length (used t)));
  }

  same_counts : (c d : Counts) → c.all ≡ d.all → c.done ≡ d.done → c.fell ≡ d.fell → c ≡ d
  same_counts c d x y z = λ i. record { all = x i; done = y i; fell = z i }

  module _ (counted : Counted t reps a cs) where
    counts_more : (k : ℕ) → (l : k < length (used t)) → starts (row k) b ≡ true → counted_by (get_or os k no_open).ended (get_or cs k no_counts) ≡ counts_to t reps k b
    unfolding counts_to
    counts_more k l h =
        let c : get_or cs k no_counts ≡ counts_to t reps k a = counted.each k l in
        let e : (get_or os k no_open).ended ≡ ended_of (ended k) = ended_code k l in
        let more : (test : Ending → Bool) → jobs_due (used t) works (reported reps) test k 0 b ≡ jobs_due (used t) works (reported reps) test k 0 a + unit (test (ended k))
        = λ test. due_more (used t) works (reported reps) k (long k l) a b later (near k l) h test 0
        ∙ ap (λ (x : Bool). jobs_due (used t) works (reported reps) test k 0 a + unit (x && test (ended k))) (lt-ltb 0 b (omega arith)) in
        ap₂ counted_by e c
        ∙ counted_is (ended k) (counts_to t reps k a)
        ∙ same_counts _ (counts_to t reps k b) (sym (more any)) (sym (more by_primary)) (sym (more fell))

    counts_still : (k : ℕ) → (l : k < length (used t)) → starts (row k) b ≡ false → counts_to t reps k a ≡ counts_to t reps k b
    unfolding counts_to
    counts_still k l h =
        let still : (test : Ending → Bool) → jobs_due (used t) works (reported reps) test k 0 a ≡ jobs_due (used t) works (reported reps) test k 0 b
        = λ test. sym (due_still (used t) works (reported reps) k (long k l) a b later (near k l) h test 0) in
        same_counts (counts_to t reps k a) (counts_to t reps k b) (still any) (still by_primary) (still fell)

    pub counted_after : Counted t reps b cs'
    counted_after = record {
      sixteen = closed.sizes ∙ counted.sixteen;
      each = λ k l.
          closed.counts k l
          ∙ ⊎_elim (λ (h : starts (row k) b ≡ true).
          ap (λ (x : Bool). cond x (counted_by (get_or os k no_open).ended (get_or cs k no_counts)) (get_or cs k no_counts)) h ∙ counts_more k l h)
          (λ (h : starts (row k) b ≡ false).
          ap (λ (x : Bool). cond x (counted_by (get_or os k no_open).ended (get_or cs k no_counts)) (get_or cs k no_counts)) h
          ∙ counted.each k l
          ∙ counts_still k l h)
          (split (starts (row k) b));
      past = λ k l. closed.past k l ∙ counted.past k l;
    }
