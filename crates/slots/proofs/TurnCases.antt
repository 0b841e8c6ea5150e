-- What a slot of a run does, and the byte that tells it.
-- Assumes nothing.
use Rattle.refusal.proofs.Order.{answer_err, err_some, ok_none, answer_ok}
use Rattle.refusal.specs.Order.{verdict}
use Rattle.std.specs.Prelude.{Err, Ok, None}
use mathlib.Core.Path.{◌≡◌, refl, sym, ap, ◌∙◌, ap₂}
use mathlib.Core.Logic.{⊎_elim}
use mathlib.Core.Bool.{true, false}
use Prim.Native.Nat.{ℕ, zero, suc, ◌≤◌, ◌<◌}
use native.Mathlib.Omega.{arith}
use borrow.Author.Tests.{ltb-false}
use lib.Dec.{ltb}
use Rattle.refusal.specs.declared.Refusal.{Refusal}
use Rattle.rule.proofs.Tests.{split}
use Rattle.slots.specs.OneSlot.{Work, primary, reserved, unreserved, byte_of}
use Rattle.slots.specs.Reports.{report_refusal}
use Rattle.slots.specs.History.{work_of}
use Rattle.slots.specs.Turns.{lowest_in, entry_of, turn_of}
use Rattle.slots.proofs.RunFacts.{work_byte}

-- ---- what runs, from the slot's holder and the waiting set
few_primary : (holder row : ℕ) → row ≤ 16 → (k : ℕ) → reserved holder (unreserved row) ≡ primary k → k < 16
few_primary zero zero l k e = let z : ◌≡◌ {A = ℕ} 0 1 = cc in absurd (omega arith)
few_primary zero (suc i) l k e = let same : i ≡ k = cc in omega arith
few_primary (suc h) row l k e = let z : ◌≡◌ {A = ℕ} 0 1 = cc in absurd (omega arith)

module _ (holder waiting report row ran : ℕ) (l : lowest_in waiting ≤ 16) (r : row ≡ lowest_in waiting) (b : ran ≡ byte_of (reserved holder (unreserved row))) where
  abbrev runs : Work
  runs = reserved holder (unreserved (lowest_in waiting))

  is_byte : ran ≡ byte_of runs
  is_byte = b ∙ ap (λ (n : ℕ). byte_of (reserved holder (unreserved n))) r

  is_work : work_of ran ≡ runs
  is_work = ap work_of is_byte ∙ work_byte runs (few_primary holder (lowest_in waiting) l)

  pub turn_is : (u : Unit) → verdict (report_refusal (work_of ran) report) ≡ Ok u → (at : ℕ) → at ≡ entry_of (work_of ran)
      → Ok (record { ran = ran; at = at }) ≡ turn_of runs report
  turn_is u g at p =
      let none : report_refusal runs report ≡ None = ap (λ (v : Work). report_refusal v report) (sym is_work) ∙ ok_none _ tt u g in
      ap₂ (λ (x y : ℕ). Ok (record { ran = x; at = y })) is_byte (p ∙ ap entry_of is_work) ∙ answer_ok (report_refusal runs report) _ none

  pub turn_refused : (f : Refusal) → verdict (report_refusal (work_of ran) report) ≡ Err f → Err f ≡ turn_of runs report
  turn_refused f g = answer_err (report_refusal runs report) _ f (ap (λ (v : Work). report_refusal v report) (sym is_work) ∙ err_some _ tt f g)

-- the byte that a work is told by
pub byte_work : (ran : ℕ) → byte_of (work_of ran) ≡ ran
unfolding work_of byte_of
byte_work zero = refl
byte_work (suc b) =
    ⊎_elim (λ (h : ltb b 16 ≡ true). rw h refl) (λ (h : ltb b 16 ≡ false). rw h (omega (arith, ltb-false b 16 h))) (split (ltb b 16))
