-- The bags' bytes after a stretch of slots in which no window of the dosing row ends but at its end.
-- Assumes nothing.
use mathlib.Core.Path.{◌≡◌, sym, ap, ap₂, ◌∙◌}
use mathlib.Core.Logic.{◌⊎◌, inl, inr, ⊎_elim}
use mathlib.Core.Bool.{Bool, true, false, ◌&&◌}
use mathlib.Core.List.{List}
use Prim.Native.Nat.{ℕ, ◌+◌, ◌-◌, ◌≤◌, ◌<◌, min}
use native.Mathlib.Omega.{arith}
use lib.Dec.{ltb}
use borrow.Author.Tests.{lt-ltb, le-ltb}
use lib.ListN.{length, get_or}
use Rattle.table.specs.declared.Table.{Table}
use Rattle.table.specs.declared.Row.{Row}
use Rattle.table.specs.Rows.{used, row_at}
use Rattle.table.specs.Windows.{starts, window_end}
use Rattle.rule.specs.Slots.{unit}
use Rattle.rule.proofs.Tests.{split, side}
use Rattle.slots.specs.Records.{new_job}
use Rattle.slots.specs.OneSlot.{Work}
use Rattle.slots.specs.History.{reported}
use Rattle.slots.specs.LostUnits.{Ending, ending_of}
use Rattle.dosing.specs.Jobs.{by_primary, by_alternate, jobs_due}
use Rattle.dosing.specs.Bags.{mark_of, bag_mark}
use Rattle.dosing.specs.Turns.{start_of}
use Rattle.dosing.proofs.Due.{due_same}
use Rattle.bagreport.specs.Answers.{works_of}
use Rattle.bagreport.specs.Pairs.{bags, start_at, end_at}
use Rattle.bagreport.specs.declared.told.Ended.{Ended}
use Rattle.bagreport.specs.Turns.{ended_of, Looks, kind_of, joined_mark, Remarked, Bagged, Beyond}
use Rattle.bagreport.proofs.JobCounted.{mark_more}
use Rattle.bagreport.proofs.StretchTold.{due_more, not_end}

-- ---- one bag of row k, whose window at slot a ends no earlier than slot b
module _ (rs : List Row) (works : ℕ → Work) (reports : ℕ → ℕ) (k : ℕ) (long : 0 < (row_at rs k).period) (a b : ℕ) (later : a < b) (near : b ≤ window_end (row_at rs k) a)
    (start end : ℕ) where
  -- its byte by the jobs whose deadline has come by a slot
  abbrev mark_to : ℕ → ℕ
  mark_to at = bag_mark rs works reports k start (min end at)

  -- no deadline comes from slot a up to slot e
  still : (e : ℕ) → a ≤ e → e < window_end (row_at rs k) a → bag_mark rs works reports k start e ≡ bag_mark rs works reports k start a
  unfolding bag_mark
  still e l u = ap₂ mark_of (due_same rs works reports k by_primary long start a e l u) (due_same rs works reports k by_alternate long start a e l u)

  -- the bag has ended
  mark_ended : end ≤ a → mark_to a ≡ mark_to b
  mark_ended l =
      let x : min end a ≡ min end b = omega arith in
      ap (bag_mark rs works reports k start) x

  -- it ends before the next deadline, or that comes after slot b
  mark_still : a < end → min end b < window_end (row_at rs k) a → mark_to a ≡ mark_to b
  mark_still l u =
      let x : min end a ≡ a = omega arith in
      ap (bag_mark rs works reports k start) x ∙ sym (still (min end b) (omega arith) u)

  -- no window has ended
  pub mark_inside : starts (row_at rs k) b ≡ false → bag_mark rs works reports k start (min end a) ≡ bag_mark rs works reports k start (min end b)
  mark_inside h =
      let u : b < window_end (row_at rs k) a = not_end rs works reports k long a b later near h in
      ⊎_elim (λ (l : a < end). mark_still l (omega arith)) (λ (l : end ≤ a). mark_ended l) (side a end)

  -- a window has ended
  module _ (h : starts (row_at rs k) b ≡ true) where
    abbrev ending : Ending
    ending = ending_of works reports k (row_at rs k).primary (start_of (row_at rs k) a) (new_job (row_at rs k)) (b - start_of (row_at rs k) a)

    more : (test : Ending → Bool) → jobs_due rs works reports test k start b ≡ jobs_due rs works reports test k start a + unit (ltb start b && test ending)
    more test = due_more rs works reports k long a b later near h test start

    -- and the bag looks at its job
    pub mark_looked : start < b → b ≤ end → joined_mark (bag_mark rs works reports k start (min end a)) (kind_of (ended_of ending)) ≡ bag_mark rs works reports k start (min end b)
    unfolding bag_mark
    mark_looked l u =
        let x : min end a ≡ a = omega arith in
        let y : b ≡ min end b = omega arith in
        let one : (test : Ending → Bool) → jobs_due rs works reports test k start a + unit (test ending) ≡ jobs_due rs works reports test k start b
        = λ test. sym (more test ∙ ap (λ (z : Bool). jobs_due rs works reports test k start a + unit (z && test ending)) (lt-ltb start b l)) in
        ap (λ (e : ℕ). joined_mark (bag_mark rs works reports k start e) (kind_of (ended_of ending))) x
        ∙ mark_more ending (jobs_due rs works reports by_primary k start a) (jobs_due rs works reports by_alternate k start a)
        ∙ ap₂ mark_of (one by_primary) (one by_alternate)
        ∙ ap (bag_mark rs works reports k start) y

    -- the bag starts no earlier
    mark_before : b ≤ start → b ≤ end → mark_to a ≡ mark_to b
    unfolding bag_mark
    mark_before l u =
        let x : min end a ≡ a = omega arith in
        let y : b ≡ min end b = omega arith in
        let none : (test : Ending → Bool) → jobs_due rs works reports test k start a ≡ jobs_due rs works reports test k start b
        = λ test. sym (more test ∙ ap (λ (z : Bool). jobs_due rs works reports test k start a + unit (z && test ending)) (le-ltb start b l) ∙ (let n : jobs_due rs works reports test k start a + 0 ≡ jobs_due rs works reports test k start a = omega arith in n)) in
        ap (bag_mark rs works reports k start) x ∙ ap₂ mark_of (none by_primary) (none by_alternate) ∙ ap (bag_mark rs works reports k start) y

    -- and the bag doesn't look at its job
    pub mark_other : (start < b → b ≤ end → ⊥) → bag_mark rs works reports k start (min end a) ≡ bag_mark rs works reports k start (min end b)
    mark_other not =
        ⊎_elim (λ (l : end < b).
        ⊎_elim (λ (m : a < end). mark_still m (omega arith)) (λ (m : end ≤ a). mark_ended m) (side a end))
        (λ (l : b ≤ end). mark_before (⊎_elim (λ (m : start < b). absurd (not m l)) (λ (m : b ≤ start). m) (side start b)) l)
        (side end b)

-- ---- all bags
module _ (t : Table) (reps : List ℕ) (k : ℕ) (spans : List ℕ) (a b : ℕ) (later : a < b) (long : 0 < (row_at (used t) k).period) (near : b ≤ window_end (row_at (used t) k) a)
    (ended : Ended)
    (is_ended : ended ≡ ended_of (ending_of (works_of t reps) (reported reps) k (row_at (used t) k).primary (start_of (row_at (used t) k) a) (new_job (row_at (used t) k)) (b - start_of (row_at (used t) k) a)))
    (old new : List ℕ) (before : Bagged t reps k spans a old)
    (on : starts (row_at (used t) k) b ≡ true → Remarked spans b (kind_of ended) old new)
    (off : starts (row_at (used t) k) b ≡ false → new ≡ old) where
  abbrev works : ℕ → Work
  works = works_of t reps

  same_size : length new ≡ length old
  same_size = ⊎_elim (λ h. (on h).size) (λ h. ap length (off h)) (split (starts (row_at (used t) k) b))

  looks : (c : ℕ) → c < bags spans → Looks spans b c ⊎ (start_at spans c < b → b ≤ end_at spans c → ⊥)
  looks c l =
      ⊎_elim (λ (x : start_at spans c < b).
      ⊎_elim (λ (y : end_at spans c < b). inr (λ m n. omega arith)) (λ (y : b ≤ end_at spans c). inl (l, x, y)) (side (end_at spans c) b))
      (λ (x : b ≤ start_at spans c). inr (λ m n. omega arith))
      (side (start_at spans c) b)

  each_after : (c : ℕ) → c < bags spans → get_or new c 0 ≡ bag_mark (used t) works (reported reps) k (start_at spans c) (min (end_at spans c) b)
  each_after c l =
      ⊎_elim (λ (h : starts (row_at (used t) k) b ≡ true).
      ⊎_elim (λ (x : Looks spans b c).
      (on h).looked c x
      ∙ ap₂ (λ (m : ℕ) (d : Ended). joined_mark m (kind_of d)) (before.each c l) is_ended
      ∙ mark_looked (used t) works (reported reps) k long a b later near (start_at spans c) (end_at spans c) h x.1 x.2)
      (λ (x : start_at spans c < b → b ≤ end_at spans c → ⊥).
      (on h).others c (λ y. x y.1 y.2)
      ∙ before.each c l
      ∙ mark_other (used t) works (reported reps) k long a b later near (start_at spans c) (end_at spans c) h x)
      (looks c l))
      (λ (h : starts (row_at (used t) k) b ≡ false).
      ap (λ (s : List ℕ). get_or s c 0) (off h)
      ∙ before.each c l
      ∙ mark_inside (used t) works (reported reps) k long a b later near (start_at spans c) (end_at spans c) h)
      (split (starts (row_at (used t) k) b))

  pub bagged_after : Bagged t reps k spans b new
  bagged_after = record { room = omega (arith, before.room, same_size); each = each_after }

  pub beyond_after : Beyond spans old new
  beyond_after = record {
    size = same_size;
    stay = λ c l.
        ⊎_elim (λ (h : starts (row_at (used t) k) b ≡ true). (on h).others c (λ y. omega (arith, y.0))) (λ (h : starts (row_at (used t) k) b ≡ false). ap (λ (s : List ℕ). get_or s c 0) (off h))
        (split (starts (row_at (used t) k) b));
  }
