-- What a bag's byte and a row's counts say, in the words of demand 3.
-- Assumes nothing.
use mathlib.Core.Path.{◌≡◌, refl, sym, ap, ◌∙◌}
use mathlib.Core.Logic.{◌↔◌, ⊎_elim}
use mathlib.Core.Bool.{Bool, true, false, not, ◌&&◌}
use mathlib.Core.List.{List}
use Prim.Native.Nat.{ℕ, zero, suc, ◌≤◌, ◌<◌}
use native.Mathlib.Nat.{eq-zero-or-pos}
use native.Mathlib.Omega.{arith}
use borrow.Author.Tests.{lt-ltb, leb-true}
use lib.Dec.{ltb, leb}
use lib.ListN.{length}
use Rattle.table.specs.declared.Row.{Row}
use Rattle.table.specs.Rows.{row_at}
use Rattle.table.specs.Windows.{closes}
use Rattle.table.proofs.Windows.{opens_first}
use Rattle.rule.proofs.Tests.{both_ways}
use Rattle.rule.proofs.Counting.{within_same}
use Rattle.slots.specs.OneSlot.{Work}
use Rattle.slots.specs.LostUnits.{Ending}
use Rattle.dosing.specs.Jobs.{by_primary, by_alternate, fell, any, ending_at, jobs_due}
use Rattle.dosing.specs.Bags.{mark_of, bag_mark}
use Rattle.dosing.specs.Meaning.{LooksAt, Modelled, Fixed, FellIn, Some, Each, NoneBag, ModelledBag, FixedBag, MixedBag, Tells, tally}
use Rattle.dosing.proofs.JobKinds.{FromFresh, by_primary_lem, by_alternate_lem, no_third_way, not_both, fell_is}
use Rattle.dosing.proofs.Due.{due_found, due_counts}

-- ---- a mark, by how many jobs of each kind there are
mark_none : (p a : ℕ) → (mark_of p a ≡ 0) ↔ ((p ≡ 0) × (a ≡ 0))
unfolding mark_of
mark_none zero zero = (λ e. (refl, refl), λ h. refl)
mark_none (suc p) zero = (λ e. absurd (omega arith), λ h. absurd (omega (arith, h.0)))
mark_none zero (suc a) = (λ e. absurd (omega arith), λ h. absurd (omega (arith, h.1)))
mark_none (suc p) (suc a) = (λ e. absurd (omega arith), λ h. absurd (omega (arith, h.0)))

mark_modelled : (p a : ℕ) → (mark_of p a ≡ 1) ↔ ((0 < p) × (a ≡ 0))
unfolding mark_of
mark_modelled zero zero = (λ e. absurd (omega arith), λ h. absurd (omega (arith, h.0)))
mark_modelled (suc p) zero = (λ e. (omega arith, refl), λ h. refl)
mark_modelled zero (suc a) = (λ e. absurd (omega arith), λ h. absurd (omega (arith, h.1)))
mark_modelled (suc p) (suc a) = (λ e. absurd (omega arith), λ h. absurd (omega (arith, h.1)))

mark_fixed : (p a : ℕ) → (mark_of p a ≡ 2) ↔ ((p ≡ 0) × (0 < a))
unfolding mark_of
mark_fixed zero zero = (λ e. absurd (omega arith), λ h. absurd (omega (arith, h.1)))
mark_fixed (suc p) zero = (λ e. absurd (omega arith), λ h. absurd (omega (arith, h.0)))
mark_fixed zero (suc a) = (λ e. (refl, omega arith), λ h. refl)
mark_fixed (suc p) (suc a) = (λ e. absurd (omega arith), λ h. absurd (omega (arith, h.0)))

mark_mixed : (p a : ℕ) → (mark_of p a ≡ 3) ↔ ((0 < p) × (0 < a))
unfolding mark_of
mark_mixed zero zero = (λ e. absurd (omega arith), λ h. absurd (omega (arith, h.0)))
mark_mixed (suc p) zero = (λ e. absurd (omega arith), λ h. absurd (omega (arith, h.1)))
mark_mixed zero (suc a) = (λ e. absurd (omega arith), λ h. absurd (omega (arith, h.0)))
mark_mixed (suc p) (suc a) = (λ e. (omega arith, omega arith), λ h. refl)

-- 'by alternate' is 'not by primary'
alternate_not : (b : Bool) → not b ≡ true → b ≡ false
alternate_not true h = sym h
alternate_not false h = refl

module _ {rs : List Row} {N : ℕ} {works : ℕ → Work} {reports : ℕ → ℕ} (h : FromFresh rs N works reports) (k : ℕ) (row : k < length rs) where
  abbrev r : Row
  r = row_at rs k

  long : 0 < r.period
  long = (h.usable.good k row).period

  -- ---- a bag that ends no later than the history
  module _ (start end : ℕ) (ran : end ≤ N) where
    abbrev primaries : ℕ
    primaries = jobs_due rs works reports by_primary k start end

    abbrev alternates : ℕ
    alternates = jobs_due rs works reports by_alternate k start end

    abbrev SomeModelled : Type 0
    SomeModelled = Some (row_at rs k) start end (Modelled rs works reports k)

    abbrev SomeFixed : Type 0
    SomeFixed = Some (row_at rs k) start end (Fixed rs works reports k)

    mark_is : bag_mark rs works reports k start end ≡ mark_of primaries alternates
    unfolding bag_mark
    mark_is = refl

    due : (j : ℕ) → LooksAt r start end j → closes r j ≤ N
    due j l = omega (arith, l.by)

    -- ---- it looks at a job of a kind exactly when one is counted
    modelled_counts : (j : ℕ) → LooksAt r start end j → Modelled rs works reports k j → 0 < primaries
    modelled_counts j l m =
        due_counts rs works reports k by_primary long start end j l.is_job (omega (arith, l.after)) l.by ((by_primary_lem h k row j l.is_job (due j l)).1 m)

    fixed_counts : (j : ℕ) → LooksAt r start end j → Fixed rs works reports k j → 0 < alternates
    fixed_counts j l f =
        due_counts rs works reports k by_alternate long start end j l.is_job (omega (arith, l.after)) l.by (ap not ((by_alternate_lem h k row j l.is_job (due j l)).1 f))

    some_modelled : 0 < primaries → SomeModelled
    some_modelled u =
        let f = due_found rs works reports k by_primary start end u in
        let l : LooksAt r start end f.0 = record { is_job = f.1; after = f.2; by = f.3 } in
        (f.0, l, (by_primary_lem h k row f.0 f.1 (due f.0 l)).0 f.4)

    some_fixed : 0 < alternates → SomeFixed
    some_fixed u =
        let f = due_found rs works reports k by_alternate start end u in
        let l : LooksAt r start end f.0 = record { is_job = f.1; after = f.2; by = f.3 } in
        (f.0, l, (by_alternate_lem h k row f.0 f.1 (due f.0 l)).0 (alternate_not (by_primary (ending_at rs works reports k f.0)) f.4))

    -- ---- and each is of one kind exactly when none of the other is counted
    each_modelled : (alternates ≡ 0) ↔ Each (row_at rs k) start end (Modelled rs works reports k)
    each_modelled = (
      λ z j l. ⊎_elim (λ m. m) (λ f. absurd (omega (arith, fixed_counts j l f))) (no_third_way h k row j l.is_job (due j l)),
      λ each.
          ⊎_elim (λ z. z)
          (λ u. let f : SomeFixed = some_fixed u in absurd (not_both h k row f.0 f.1.is_job (due f.0 f.1) (each f.0 f.1) f.2))
          (eq-zero-or-pos alternates),
    )

    each_fixed : (primaries ≡ 0) ↔ Each (row_at rs k) start end (Fixed rs works reports k)
    each_fixed = (
      λ z j l. ⊎_elim (λ m. absurd (omega (arith, modelled_counts j l m))) (λ f. f) (no_third_way h k row j l.is_job (due j l)),
      λ each.
          ⊎_elim (λ z. z)
          (λ u. let f : SomeModelled = some_modelled u in absurd (not_both h k row f.0 f.1.is_job (due f.0 f.1) f.2 (each f.0 f.1)))
          (eq-zero-or-pos primaries),
    )

    -- ---- the byte
    pub marked_none : (bag_mark rs works reports k start end ≡ 0) ↔ NoneBag rs works reports k start end
    marked_none = (
      λ e j l.
          let z = (mark_none primaries alternates).0 (sym mark_is ∙ e) in
          not_both h k row j l.is_job (due j l) (each_modelled.0 z.1 j l) (each_fixed.0 z.0 j l),
      λ none. mark_is ∙ (mark_none primaries alternates).1 (each_fixed.1 (λ j l. absurd (none j l)), each_modelled.1 (λ j l. absurd (none j l))),
    )

    pub marked_modelled : (bag_mark rs works reports k start end ≡ 1) ↔ ModelledBag rs works reports k start end
    marked_modelled = (
      λ e. let z = (mark_modelled primaries alternates).0 (sym mark_is ∙ e) in (some_modelled z.0, each_modelled.0 z.1),
      λ b. mark_is ∙ (mark_modelled primaries alternates).1 (modelled_counts b.0.0 b.0.1 b.0.2, each_modelled.1 b.1),
    )

    pub marked_fixed : (bag_mark rs works reports k start end ≡ 2) ↔ FixedBag rs works reports k start end
    marked_fixed = (
      λ e. let z = (mark_fixed primaries alternates).0 (sym mark_is ∙ e) in (some_fixed z.1, each_fixed.0 z.0),
      λ b. mark_is ∙ (mark_fixed primaries alternates).1 (each_fixed.1 b.1, fixed_counts b.0.0 b.0.1 b.0.2),
    )

    pub marked_mixed : (bag_mark rs works reports k start end ≡ 3) ↔ MixedBag rs works reports k start end
    marked_mixed = (
      λ e. let z = (mark_mixed primaries alternates).0 (sym mark_is ∙ e) in (some_modelled z.0, some_fixed z.1),
      λ b. mark_is ∙ (mark_mixed primaries alternates).1 (modelled_counts b.0.0 b.0.1 b.0.2, fixed_counts b.1.0 b.1.1 b.1.2),
    )

  -- ---- the counts: of the row's jobs whose deadline has come
  counted : (test : Ending → Bool) (m : ℕ → Bool) → ((j : ℕ) → 1 ≤ j → closes r j ≤ N → test (ending_at rs works reports k j) ≡ m j)
      → jobs_due rs works reports test k 0 N ≡ tally r N m
  unfolding jobs_due
  counted test m same = within_same _ _ 1 (suc N) (λ j l u. go j l (leb (closes r j) N) refl)
    where
      go : (j : ℕ) → 1 ≤ j → (b : Bool) → leb (closes r j) N ≡ b → (ltb 0 (closes r j) && (b && test (ending_at rs works reports k j))) ≡ (b && m j)
      go j l true e = rw (lt-ltb 0 (closes r j) (omega (arith, opens_first r (h.usable.good k row) j l))) (same j l (leb-true (closes r j) N e))
      go j l false e = rw (lt-ltb 0 (closes r j) (omega (arith, opens_first r (h.usable.good k row) j l))) refl

  counted_as : (test : Ending → Bool) (P : ℕ → Type 0) → ((j : ℕ) → 1 ≤ j → closes r j ≤ N → (test (ending_at rs works reports k j) ≡ true) ↔ P j)
      → (m : ℕ → Bool) → Tells r N m P → jobs_due rs works reports test k 0 N ≡ tally r N m
  counted_as test P is m says =
      counted test m
      (λ j l u. both_ways (test (ending_at rs works reports k j)) (m j) (λ b. (says j l u).1 ((is j l u).0 b)) (λ b. (is j l u).1 ((says j l u).0 b)))

  -- 'primaries done'
  pub modelled_count : (m : ℕ → Bool) → Tells (row_at rs k) N m (Modelled rs works reports k) → jobs_due rs works reports by_primary k 0 N ≡ tally (row_at rs k) N m
  modelled_count = counted_as by_primary (Modelled rs works reports k) (by_primary_lem h k row)

  -- 'all'
  pub all_count : jobs_due rs works reports any k 0 N ≡ tally (row_at rs k) N (λ j. true)
  all_count = counted any (λ j. true) (λ j l u. refl)

  -- 'those reported failed or overrun'
  pub fell_count : (m : ℕ → Bool) → Tells (row_at rs k) N m (FellIn rs works reports k) → jobs_due rs works reports fell k 0 N ≡ tally (row_at rs k) N m
  fell_count = counted_as fell (FellIn rs works reports k) (fell_is h k row)
