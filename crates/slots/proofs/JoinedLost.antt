-- Lost units of joined lists are those of the first, and then those of the second from the record which the first gives.
-- Assumes nothing.
use Rattle.std.specs.Prelude.{None}
use mathlib.Core.Path.{◌≡◌, sym, ap, ap₂, ◌∙◌}
use mathlib.Core.Logic.{⊎_elim}
use mathlib.Core.Bool.{true, false}
use mathlib.Core.List.{List, [], ◌∷◌, ◌++◌}
use Prim.Native.Nat.{ℕ, ◌+◌}
use native.Mathlib.Omega.{arith}
use lib.ListN.{length}
use Rattle.refusal.specs.Order.{accepted}
use Rattle.table.specs.declared.Row.{Row}
use Rattle.rule.proofs.Tests.{split, never}
use Rattle.slots.specs.declared.Record.{Record}
use Rattle.slots.specs.OneSlot.{what, step_of}
use Rattle.slots.specs.Reports.{report_refusal, Outcome, run_of}
use Rattle.slots.specs.History.{logged, reported}
use Rattle.slots.specs.LostUnits.{lost_units}
use Rattle.slots.specs.Turns.{lost_by}
use Rattle.slots.proofs.SoundRecord.{Usable, Sound}
use Rattle.slots.proofs.RunFacts.{run_none, run_on, run_stops, next_sound}
use Rattle.slots.proofs.JoinedRuns.{first_none, then_none}
use Rattle.slots.proofs.LostRows.{by_none, by_more}
use Rattle.slots.proofs.LostSum.{lost_sum}

-- kept slot by slot
pub join_lost : (rs : List Row) (q : Record) (xs ys : List ℕ) → (run_of rs q xs).refusal ≡ None → lost_by rs q (xs ++ ys) ≡ lost_by rs q xs + lost_by rs (run_of rs q xs).next ys
join_lost rs q [] ys h = rw (run_none rs q) (omega (arith, by_none rs q))
join_lost rs q (x ∷ xs) ys h =
    let p : Record = step_of rs q x in
    let more : (run_of rs p xs).refusal ≡ None → lost_by rs p (xs ++ ys) ≡ lost_by rs p xs + lost_by rs (run_of rs p xs).next ys = join_lost rs p xs ys in
    ⊎_elim (λ (e : accepted (report_refusal (what rs q) x) ≡ true).
    let on : ((run_of rs q (x ∷ xs)).refusal ≡ (run_of rs p xs).refusal) × ((run_of rs q (x ∷ xs)).next ≡ (run_of rs p xs).next) = (
      ap (λ (o : Outcome). o.refusal) (run_on rs q x xs e),
      ap (λ (o : Outcome). o.next) (run_on rs q x xs e),
    ) in
    rw on.1 (omega (arith, by_more rs q x xs, by_more rs q x (xs ++ ys), more (sym on.0 ∙ h))))
    (λ (e : accepted (report_refusal (what rs q) x) ≡ false). never (ap accepted (sym (ap (λ (o : Outcome). o.refusal) (run_stops rs q x xs e)) ∙ h)) e)
    (split (accepted (report_refusal (what rs q) x)))

-- as the history has them
pub joined_units : (rs : List Row) → Usable rs → (q : Record) → Sound rs q → (xs ys : List ℕ) → (run_of rs q (xs ++ ys)).refusal ≡ None
    → lost_units rs q (logged (run_of rs q (xs ++ ys)).log) (reported (xs ++ ys)) (length (xs ++ ys))
    ≡ lost_units rs q (logged (run_of rs q xs).log) (reported xs) (length xs)
    + lost_units rs (run_of rs q xs).next (logged (run_of rs (run_of rs q xs).next ys).log) (reported ys) (length ys)
joined_units rs ok q s xs ys h =
    sym (lost_sum rs ok q s (xs ++ ys) h)
    ∙ join_lost rs q xs ys (first_none rs q xs ys h)
    ∙ ap₂ ◌+◌ (lost_sum rs ok q s xs (first_none rs q xs ys h)) (lost_sum rs ok (run_of rs q xs).next (next_sound rs ok q s xs) ys (then_none rs q xs ys h))
