-- Refusals 1 to 7 and 9 before a slot, and the holder of the clock's slot, as the code meets them.
-- Assumes nothing.
use Rattle.std.specs.Prelude.{Option, Some, None, Ok, Err}
use Rattle.std.proofs.lemmas.Option.{none-some}
use mathlib.Core.Path.{◌≡◌, refl, sym, ap, ◌∙◌}
use mathlib.Core.Bool.{Bool, true, false, not, ◌&&◌}
use mathlib.Core.List.{List}
use Prim.Native.Nat.{ℕ, ◌<◌}
use native.Mathlib.Omega.{arith}
use borrow.Author.Tests.{ltb-true, lt-ltb}
use lib.Dec.{ltb, eqb}
use Rattle.refusal.specs.declared.Refusal.{Refusal}
use Rattle.refusal.specs.declared.Refusal.TheVariants.{Record as NotSound}
use Rattle.refusal.specs.Order.{given, or_else}
use Rattle.refusal.proofs.Order.{passes, err_some}
use Rattle.table.specs.declared.Table.{Table}
use Rattle.table.specs.Rows.{used, cycle_of}
use Rattle.table.specs.Check.{rows_refusal}
use Rattle.rule.proofs.Tests.{and_left}
use Rattle.reserve.specs.declared.Standing.{Standing}
use Rattle.reserve.specs.Check.{table_refusal, table_check}
use Rattle.reserve.specs.Standing.{from_clock}
use Rattle.reserve.proofs.Verdict.{table_rows, refused_table, checked_none}
use Rattle.reserve.proofs.FromClock.{from_cycle, from_short, from_holder}
use Rattle.slots.specs.declared.Record.{Record}
use Rattle.slots.specs.Sound.{jobs_fit, lefts, claims_of, sound, record_refusal}
use Rattle.slots.specs.OneSlot.{holder_at}
use Rattle.slots.specs.Turns.{Steady}

-- the holder of the clock's slot, by the sweep from the clock
pub held_now : (t : Table) (q : Record) (left : List ℕ) (s : Standing) → q.clock < cycle_of (used t)
    → left ≡ lefts q.jobs → from_clock t q.clock left ≡ Ok s → s.holder ≡ holder_at (used t) q q.clock
unfolding holder_at claims_of
held_now t q left s l e h = from_holder t q.clock left s h ∙ rw (lt-ltb q.clock (cycle_of (used t)) l, e) refl

module _ (t : Table) (q : Record) where
  -- ---- the ways out, after the check of the table
  pub admit_refused : (f : Refusal) → table_check t ≡ Err f → record_refusal t q ≡ Some f
  unfolding record_refusal or_else
  admit_refused f e = ap (λ (g : Option Refusal). or_else g (given (not (sound (used t) q)) NotSound)) (refused_table t f e)

  module _ (cycle : ℕ) (e : table_check t ≡ Ok cycle) where
    accepted_table : table_refusal t ≡ None
    accepted_table = checked_none t cycle e

    last : record_refusal t q ≡ given (not (sound (used t) q)) NotSound
    unfolding record_refusal
    last = sym (passes (table_refusal t) (given (not (sound (used t) q)) NotSound) accepted_table)

    -- the sweep from the clock refuses no table that is accepted
    pub admit_stands : (left : List ℕ) (f : Refusal) → from_clock t q.clock left ≡ Err f → record_refusal t q ≡ Some f
    unfolding from_clock
    admit_stands left f h = absurd (none-some f (sym (table_rows t accepted_table) ∙ err_some (rows_refusal t) _ f h))

    module _ (left : List ℕ) (units : left ≡ lefts q.jobs) (s : Standing) (stands : from_clock t q.clock left ≡ Ok s)
        (fit : Bool) (fits : fit ≡ jobs_fit (used t) q.jobs) (b : Bool) (holds : b ≡ (ltb q.clock s.cycle && (fit && eqb s.short 0))) where
      tells : b ≡ sound (used t) q
      unfolding sound claims_of
      tells =
          let short = from_short t q.clock left s stands in
          let same = from_cycle t q.clock left s stands in
          holds ∙ rw (same, fits, short, units) refl

      pub admit_steady : b ≡ true → Steady t s.cycle q
      admit_steady h = record { table = accepted_table; is_cycle = from_cycle t q.clock left s stands; sound = sym tells ∙ h }

      pub admit_held : b ≡ true → s.holder ≡ holder_at (used t) q q.clock
      admit_held h =
          let same = from_cycle t q.clock left s stands in
          let before : q.clock < s.cycle = ltb-true q.clock s.cycle (and_left (ltb q.clock s.cycle) (fit && eqb s.short 0) (sym holds ∙ h)) in
          held_now t q left s (omega (arith, same)) units stands

      pub admit_not : b ≡ false → record_refusal t q ≡ Some NotSound
      admit_not h = last ∙ ap (λ (x : Bool). given (not x) NotSound) (sym tells ∙ h)
