-- Demand 2, its static part: the reservations of a table are those of the backward rate-monotonic rule as document 01 fixes it, and a table that passes the earlier
-- checks is refused as tight exactly when that rule leaves a job short. docs/PROMISES.md names these theorems.
-- Assumes nothing.
use Rattle.std.specs.Prelude.{Some, None}
use mathlib.Core.Path.{◌≡◌, refl, sym, ap, ◌∙◌}
use mathlib.Core.Logic.{◌↔◌, ⊎_elim}
use mathlib.Core.Bool.{Bool, false}
use mathlib.Core.List.{List}
use Prim.Native.Nat.{ℕ, zero, suc, ◌-◌, ◌≤◌, ◌<◌}
use native.Mathlib.Omega.{arith}
use borrow.Author.Tests.{lt-ltb, le-ltb, eqb-true, eqb-false}
use lib.ListN.{length, get_or}
use Rattle.refusal.specs.declared.Refusal.TheVariants.{Tight}
use Rattle.refusal.specs.Numbers.{number_told, row_told}
use Rattle.table.specs.declared.Row.{Row}
use Rattle.table.specs.declared.Table.{Table}
use Rattle.table.specs.Rows.{row_at, used, cycle_of}
use Rattle.table.specs.Windows.{opens, closes}
use Rattle.table.specs.Check.{rows_refusal}
use Rattle.table.proofs.Check.{accepted_rows}
use Rattle.table.proofs.Cycle.{cycle_multiple}
use Rattle.table.proofs.Windows.{opens_first, count_closes}
use Rattle.rule.specs.Slots.{within, first_of}
use Rattle.rule.specs.Rule.{takes, lacks}
use Rattle.rule.specs.Sweep.{sweep}
use Rattle.rule.proofs.Tests.{side, false_if, never}
use Rattle.rule.proofs.FirstRow.{FirstAt}
use Rattle.rule.proofs.First.{FoundFirst, first_of_found}
use Rattle.rule.proofs.Lacks.{tight_none, none_tight, tight_first, first_tight}
use Rattle.rule.proofs.Words.{above_same, reserves_same, rule_follows, follows_only, follows_enough}
use Rattle.rule.proofs.Sweep.{sweep_is}
use Rattle.reserve.specs.Tables.{ends, whole}
use Rattle.reserve.specs.Check.{tight_of, table_refusal}
use Rattle.reserve.specs.Lists.{reservation_list, jobs_of, first_slots}
use Rattle.reserve.specs.Demand.{InCycle, Assigned, listed, ShortJob, TightAt, job_place, FirstReserved}
use Rattle.reserve.proofs.Tables.{AllGood, windows_of, claims_of_lem, ends_within, ends_last}
use Rattle.reserve.proofs.Verdict.{after_rows}
use Rattle.reserve.proofs.JobWindows.{follows_assigned, assigned_follows, short_lacks, lacks_short}
use Rattle.reserve.proofs.FirstSlots.{byte_takes, first_at, first_listed}

-- ---- the refusal by the row that the rule names
module _ (t : Table) (e : rows_refusal t ≡ None) where
  abbrev rs : List Row
  rs = used t

  good : AllGood rs
  good = (accepted_rows t e).good

  refusal_none : tight_of rs ≡ 0 → table_refusal t ≡ None
  refusal_none h = sym (rw (le-ltb 0 (tight_of rs) (omega arith)) at (after_rows t e))

  refusal_tight : (i : ℕ) → tight_of rs ≡ suc i → table_refusal t ≡ Some (Tight (suc i))
  refusal_tight i h = sym (rw (lt-ltb 0 (tight_of rs) (omega arith)) at (after_rows t e)) ∙ ap (λ k. Some (Tight k)) h

  none_refusal : table_refusal t ≡ None → tight_of rs ≡ 0
  none_refusal d = go (tight_of rs) refl
    where
      go : (k : ℕ) → tight_of rs ≡ k → tight_of rs ≡ 0
      go zero h = h
      go (suc i) h = absurd (omega (arith, ap number_told (sym (refusal_tight i h) ∙ d)))

  tight_refusal : (i : ℕ) → table_refusal t ≡ Some (Tight (suc i)) → tight_of rs ≡ suc i
  tight_refusal i d = go (tight_of rs) refl
    where
      go : (k : ℕ) → tight_of rs ≡ k → tight_of rs ≡ suc i
      go zero h = absurd (omega (arith, ap number_told (sym (refusal_none h) ∙ d)))
      go (suc k) h = h ∙ ap row_told (sym (refusal_tight k h) ∙ d)

  -- ---- 'refused as tight exactly when that rule leaves a job short', with the row that is named
  pub tight_exactly : (i : ℕ) → (table_refusal t ≡ Some (Tight (suc i))) ↔ TightAt rs i
  unfolding tight_of
  tight_exactly i = (forth, back)
    where
      forth : table_refusal t ≡ Some (Tight (suc i)) → TightAt rs i
      forth d =
          let a : FirstAt (lacks (ends rs) (whole rs) 0 (cycle_of rs)) (length rs) i = tight_first (ends rs) (whole rs) 0 (cycle_of rs) (length rs) i (tight_refusal i d) in
          record {
            row = a.row;
            short = lacks_short rs good i a.row a.here;
            first = λ k j l h. never (short_lacks rs good k j (omega (arith, a.row)) h) (a.none_before k l);
          }

      back : TightAt rs i → table_refusal t ≡ Some (Tight (suc i))
      back a =
          refusal_tight i
          (first_tight (ends rs) (whole rs) 0 (cycle_of rs) (length rs) i (record {
            row = a.row;
            here = short_lacks rs good i a.short.0 a.row a.short.1;
            none_before = λ k l. false_if (lacks (ends rs) (whole rs) 0 (cycle_of rs) k) (λ h. let s = lacks_short rs good k (omega (arith, a.row)) h in a.first k s.0 l s.1);
          }))

  enough : tight_of rs ≡ 0 → (i : ℕ) → i < length rs → lacks (ends rs) (whole rs) 0 (cycle_of rs) i ≡ false
  unfolding tight_of
  enough h = tight_none (ends rs) (whole rs) 0 (cycle_of rs) (length rs) h

  -- and accepted exactly when it leaves none
  pub accepted_exactly : (table_refusal t ≡ None) ↔ ((i j : ℕ) → i < length rs → ShortJob rs i j → ⊥)
  unfolding tight_of
  accepted_exactly = (
    λ d i j l h. never (short_lacks rs good i j l h) (enough (none_refusal d) i l),
    λ h.
        refusal_none
        (none_tight (ends rs) (whole rs) 0 (cycle_of rs) (length rs) (λ i l. false_if (lacks (ends rs) (whole rs) 0 (cycle_of rs) i) (λ k. let s = lacks_short rs good i l k in h i s.0 l s.1))),
  )

  -- ---- the reservation list is what the words say
  list_takes : (i s : ℕ) → i < length rs → s < cycle_of rs → takes (ends rs) (whole rs) i s ≡ listed (reservation_list rs) i s
  list_takes i s l u = sym (byte_takes rs i s l u)

  -- 'each job reserves the latest a slots of its window that no higher row holds': so does the list
  pub list_reserves : table_refusal t ≡ None → Assigned rs (listed (reservation_list rs))
  unfolding Assigned
  list_reserves d i j l c =
      reserves_same
      (λ s u. above_same (takes (ends rs) (whole rs)) (listed (reservation_list rs)) s i (λ k v. list_takes k s (omega arith) (omega (arith, c.1))))
      (λ s u. list_takes i s l (omega (arith, c.1)))
      (follows_assigned rs good (takes (ends rs) (whole rs)) (rule_follows (windows_of rs good) (claims_of_lem rs good) 0 (cycle_of rs) (enough (none_refusal d))) i j l c)

  -- and it is the only assignment that does: where there is one, the table is accepted, and the assignment is the list's
  module _ (A : ℕ → ℕ → Bool) (a : Assigned rs A) where
    pub assigned_accepted : table_refusal t ≡ None
    unfolding tight_of
    assigned_accepted =
        refusal_none
        (none_tight (ends rs) (whole rs) 0 (cycle_of rs) (length rs)
        (follows_enough (windows_of rs good) (claims_of_lem rs good) 0 (cycle_of rs) (ends_within rs good) A (assigned_follows rs good A a)))

    pub list_only : (i s : ℕ) → i < length rs → s < cycle_of rs → A i s ≡ listed (reservation_list rs) i s
    list_only i s l u =
        follows_only (windows_of rs good) (claims_of_lem rs good) 0 (cycle_of rs) (ends_within rs good) A (assigned_follows rs good A a) i s l (omega arith) u ∙ list_takes i s l u

  -- ---- 'A sweep from the cycle's end to slot 0 must give the same reservations.'
  pub sweep_same : sweep (ends rs) (whole rs) (length rs) 0 (cycle_of rs) ≡ reservation_list rs
  unfolding reservation_list
  sweep_same =
      let z : cycle_of rs - 0 ≡ cycle_of rs = omega arith in
      rw z at (sweep_is (ends rs) (whole rs) (length rs) (windows_of rs good) (claims_of_lem rs good) 0 (cycle_of rs) (omega arith) (λ i s l h. ends_last rs good i s l h))

  -- ---- the first slots are those of the reservation list
  pub firsts_reserved : table_refusal t ≡ None → (i j : ℕ) → i < length rs → InCycle rs i j
      → FirstReserved (reservation_list rs) (suc i) (opens (row_at rs i) j) (closes (row_at rs i) j) (get_or (first_slots rs) (job_place rs i j) 0)
  unfolding jobs_of Assigned
  firsts_reserved d i j l c =
      let r = row_at rs i in
      let n : j ≤ jobs_of rs i = count_closes r (good i l) (cycle_of rs) j (cycle_multiple rs i l) c.1 in
      let m : 0 < within (listed (reservation_list rs) i) (opens r j) (closes r j) = omega (arith, (good i l).alternate, (list_reserves d i j l c).exactly) in
      let g : FoundFirst (listed (reservation_list rs) i) (opens r j) (closes r j - opens r j) (first_of (listed (reservation_list rs) i) (opens r j) (closes r j - opens r j))
      = first_of_found (listed (reservation_list rs) i) (opens r j) (closes r j - opens r j) m in
      rw (first_at rs i j l c.0 n, first_listed rs good i j l c.0 n)
      (record {
        from = g.from;
        before = omega (arith, g.before, opens_first r (good i l) j c.0);
        reserved = eqb-true (get_or (reservation_list rs) (first_of (listed (reservation_list rs) i) (opens r j) (closes r j - opens r j)) 0) (suc i) g.here;
        none_earlier = λ s a b. eqb-false (get_or (reservation_list rs) s 0) (suc i) (g.none_earlier s a b);
      })

-- one slot only is the first
pub first_only : (list : List ℕ) (k w e x y : ℕ) → FirstReserved list k w e x → FirstReserved list k w e y → x ≡ y
first_only list k w e x y a b =
    ⊎_elim (λ (l : x < y). absurd (b.none_earlier x a.from l a.reserved))
    (λ (l : y ≤ x). ⊎_elim (λ (u : y < x). absurd (a.none_earlier y b.from u b.reserved)) (λ (u : x ≤ y). omega arith) (side y x)) (side x y)
