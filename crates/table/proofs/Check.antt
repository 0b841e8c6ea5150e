-- The check of a table: what an acceptance says, both ways, and the cases of its answer, each from the facts on the code's way to it.
-- Assumes nothing.
use mathlib.Core.Path.{◌≡◌, refl, sym, ap, ◌∙◌}
use mathlib.Core.Logic.{⊎_elim}
use mathlib.Core.List.{List, [], ◌∷◌}
use Prim.Native.Nat.{ℕ, zero, suc, ◌+◌, ◌≤◌, ◌<◌}
use native.Mathlib.Omega.{arith}
use native.Mathlib.Nat.{pos_of_ne-zero, ne_of_gt}
use borrow.Author.Tests.{eq-eqb, ne_eqb, lt-ltb, le-ltb, eqb-false, ltb-false}
use lib.Dec.{ltb, eqb}
use lib.ListN.{length}
use lib.Seq.{length-take-le}
use Rattle.refusal.specs.declared.Refusal.{Refusal}
use Rattle.refusal.specs.declared.Refusal.TheVariants.{Empty, Many, Cycle}
use Rattle.std.specs.Prelude.{Option, Some, None, ok_or, Ok, Err}
use Rattle.std.proofs.lemmas.Option.{none-some}
use Rattle.refusal.specs.Order.{given, or_else, verdict}
use Rattle.refusal.proofs.Order.{passes, none_first, none_later, given_not, answer_ok, answer_err, err_some}
use Rattle.table.specs.declared.Row.{Row}
use Rattle.table.specs.declared.Table.{Table}
use Rattle.table.specs.Rows.{used, blank, row_at, cycle_of, within_cycle}
use Rattle.table.specs.Check.{fault_of, faults_of, rows_refusal, rows_check}
use Rattle.table.proofs.Cycle.{cycle_pos}
use Rattle.table.proofs.Capped.{within_cases, within_is}
use Rattle.table.proofs.Good.{Good, fault_good, good_fault}

-- ---- rows after a row r₀: each is good, and no period is less than the one before
abbrev Sound : Row → List Row → Type 0
Sound r₀ rs = (i : ℕ) → i < length rs → Good (row_at rs i) × ((row_at (r₀ ∷ rs) i).period ≤ (row_at rs i).period)

faults_sound : (k : ℕ) (r₀ : Row) (rs : List Row) → faults_of k r₀.period rs ≡ None → Sound r₀ rs
unfolding faults_of
faults_sound k r₀ [] e i l = absurd (omega arith)
faults_sound k r₀ (r ∷ rs) e zero l = fault_good k r₀.period r (none_first _ _ e)
faults_sound k r₀ (r ∷ rs) e (suc i) l = faults_sound (k + 1) r rs (none_later _ _ e) i (omega arith)

sound_faults : (k : ℕ) (r₀ : Row) (rs : List Row) → Sound r₀ rs → faults_of k r₀.period rs ≡ None
unfolding faults_of
sound_faults k r₀ [] h = refl
sound_faults k r₀ (r ∷ rs) h =
    let first = h 0 (omega arith) in
    sym (passes (fault_of k r₀.period r) _ (good_fault k r₀.period r first.0 first.1))
    ∙ sound_faults (k + 1) r rs (λ i l. h (suc i) (omega arith))

-- ---- the cases of the answer
module _ (t : Table) where
  pub check_empty : t.n ≡ 0 → Err Empty ≡ rows_check t
  unfolding rows_check rows_refusal or_else
  check_empty a = answer_err (rows_refusal t) (cycle_of (used t)) Empty (simp (eq-eqb _ _ a))

  pub check_many : 16 < t.n → Err Many ≡ rows_check t
  unfolding rows_check rows_refusal or_else
  check_many b = answer_err (rows_refusal t) (cycle_of (used t)) Many (simp (ne_eqb t.n 0 (λ z. omega arith), lt-ltb _ _ b))

  module _ (a : t.n ≡ 0 → ⊥) (b : t.n ≤ 16) where
    reached : rows_refusal t ≡ or_else (faults_of 1 0 (used t)) (given (ltb 4096 (cycle_of (used t))) Cycle)
    unfolding rows_refusal or_else
    reached = simp (ne_eqb _ _ a, le-ltb _ _ b)

    pub check_fault : (f : Refusal) → verdict (faults_of 1 0 (used t)) ≡ Err f → Err f ≡ rows_check t
    unfolding rows_check or_else
    check_fault f e = answer_err (rows_refusal t) (cycle_of (used t)) f (reached ∙ ap (λ (g : Option Refusal). or_else g (given (ltb 4096 (cycle_of (used t))) Cycle)) (err_some _ _ f e))

    module _ (d : faults_of 1 0 (used t) ≡ None) where
      pub periods : (i : ℕ) → i < length (used t) → 0 < (row_at (used t) i).period
      periods i l = (faults_sound 1 blank (used t) d i l).0.period

      last : rows_refusal t ≡ given (ltb 4096 (cycle_of (used t))) Cycle
      last = reached ∙ sym (passes _ _ d)

      pub check_cycle : within_cycle (cycle_of (used t)) ≡ None → Err Cycle ≡ rows_check t
      unfolding rows_check
      check_cycle e =
          ⊎_elim
          (λ p. absurd (none-some _ (sym e ∙ p.1)))
          (λ p. answer_err (rows_refusal t) (cycle_of (used t)) Cycle (last ∙ rw (lt-ltb 4096 _ p.0)))
          (within_cases (cycle_of (used t)))

      pub check_none : (c : ℕ) → within_cycle (cycle_of (used t)) ≡ Some c → Ok c ≡ rows_check t
      unfolding rows_check
      check_none c e =
          let w = within_is _ c e in
          ap Ok w.1 ∙ answer_ok (rows_refusal t) (cycle_of (used t)) (last ∙ rw (le-ltb 4096 _ w.0))

      pub check_last : ok_or (within_cycle (cycle_of (used t))) Cycle ≡ rows_check t
      check_last =
          ⊎_elim
          (λ p. rw p.1 (check_none _ p.1))
          (λ p. rw p.1 (check_cycle p.1))
          (within_cases (cycle_of (used t)))

-- ---- what an acceptance says of a table
pub record Accepted (t : Table) : Type 0 where
  pub some : 0 < t.n
  pub few : t.n ≤ 16
  pub good : (i : ℕ) → i < length (used t) → Good (row_at (used t) i)
  pub order : (i : ℕ) → suc i < length (used t) → (row_at (used t) i).period ≤ (row_at (used t) (suc i)).period
  pub cycle : cycle_of (used t) ≤ 4096

module _ (t : Table) where
  pub accepted_rows : rows_refusal t ≡ None → Accepted t
  unfolding rows_refusal
  accepted_rows e =
      let e₂ = none_later _ _ e in
      let e₃ = none_later _ _ e₂ in
      let sound = faults_sound 1 blank (used t) (none_first _ _ e₃) in
      record {
        some = pos_of_ne-zero (eqb-false t.n 0 (given_not (eqb t.n 0) Empty (none_first _ _ e)));
        few = ltb-false 16 t.n (given_not (ltb 16 t.n) Many (none_first _ _ e₂));
        good = λ i l. (sound i l).0;
        order = λ i l. (sound (suc i) l).1;
        cycle = ltb-false 4096 (cycle_of (used t)) (given_not (ltb 4096 (cycle_of (used t))) Cycle (none_later _ _ e₃));
      }

  pub rows_accepted : Accepted t → rows_refusal t ≡ None
  rows_accepted a =
      last t (ne_of_gt a.some) a.few (sound_faults 1 blank (used t) sound) ∙ rw (le-ltb 4096 _ a.cycle)
    where
      sound : Sound blank (used t)
      sound zero l = (a.good zero l, omega arith)
      sound (suc i) l = (a.good (suc i) l, a.order i l)

  pub accepted_pos : Accepted t → 0 < cycle_of (used t)
  accepted_pos a = cycle_pos (used t) (λ i l. (a.good i l).period)

-- ---- a table of sixteen places has as many rows as it says
pub used_count : (t : Table) → length t.rows ≡ 16 → t.n ≤ 16 → length (used t) ≡ t.n
unfolding used
used_count t e m = length-take-le t.n t.rows (omega arith)

-- ---- places past the rows are ignored, whatever they hold
pub past_ignored : (t t' : Table) → t.n ≡ t'.n → used t ≡ used t' → rows_refusal t ≡ rows_refusal t'
unfolding rows_refusal
past_ignored t t' n u = ap (λ (m : ℕ). of m (used t)) n ∙ ap (of t'.n) u
  where
    of : ℕ → List Row → Option Refusal
    of m rs = or_else (given (eqb m 0) Empty) (or_else (given (ltb 16 m) Many) (or_else (faults_of 1 0 rs) (given (ltb 4096 (cycle_of rs)) Cycle)))
