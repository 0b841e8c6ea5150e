-- One job more: what its window's end adds to its row's counts and to a bag's byte, by its ending.
-- Assumes nothing.
use mathlib.Core.Path.{◌≡◌, refl, ap, ap₂, ◌∙◌}
use mathlib.Core.Bool.{Bool, true, false, not, cond}
use Prim.Native.Nat.{ℕ, zero, suc, ◌+◌, ◌-◌}
use Rattle.std.proofs.Common.{add-zero}
use native.Mathlib.Omega.{arith}
use Rattle.table.specs.declared.Row.{Row}
use Rattle.rule.specs.Slots.{unit}
use Rattle.slots.specs.Records.{new_job}
use Rattle.slots.specs.OneSlot.{Work}
use Rattle.slots.specs.History.{primaries}
use Rattle.slots.specs.LostUnits.{Ending, going, past, done, failed, overran, aborted, ending_of}
use Rattle.slots.proofs.JobStory.{primaries_none}
use Rattle.dosing.specs.Jobs.{any, by_primary, by_alternate, fell}
use Rattle.dosing.specs.Bags.{mark_of}
use Rattle.bagreport.specs.declared.due.Counts.{Counts}
use Rattle.bagreport.specs.Turns.{ended_of, no_open, open_from, counted_by, kind_of, joined_mark}

-- ---- by its ending
pub counted_is : (e : Ending) (c : Counts) → counted_by (ended_of e) c ≡ record { all = c.all + unit (any e); done = c.done + unit (by_primary e); fell = c.fell + unit (fell e) }
counted_is going c = simp add-zero
counted_is past c = simp add-zero
counted_is done c = simp add-zero
counted_is failed c = simp add-zero
counted_is overran c = simp add-zero
counted_is aborted c = simp add-zero

kind_is : (e : Ending) → kind_of (ended_of e) ≡ cond (by_primary e) 1 2
kind_is going = refl
kind_is past = refl
kind_is done = refl
kind_is failed = refl
kind_is overran = refl
kind_is aborted = refl

-- ---- to a bag's byte
next : (x : ℕ) → suc x ≡ x + 1
next x = omega arith

same : (x : ℕ) → x ≡ x + 0
same x = omega arith

by_primary_lem : (p a : ℕ) → joined_mark (mark_of p a) 1 ≡ mark_of (suc p) a
unfolding mark_of
by_primary_lem zero zero = refl
by_primary_lem zero (suc a) = refl
by_primary_lem (suc p) zero = refl
by_primary_lem (suc p) (suc a) = refl

by_alternate_lem : (p a : ℕ) → joined_mark (mark_of p a) 2 ≡ mark_of p (suc a)
unfolding mark_of
by_alternate_lem zero zero = refl
by_alternate_lem zero (suc a) = refl
by_alternate_lem (suc p) zero = refl
by_alternate_lem (suc p) (suc a) = refl

one_more : (b : Bool) (p a : ℕ) → joined_mark (mark_of p a) (cond b 1 2) ≡ mark_of (p + unit b) (a + unit (not b))
one_more true p a = by_primary_lem p a ∙ ap₂ mark_of (next p) (same a)
one_more false p a = by_alternate_lem p a ∙ ap₂ mark_of (same p) (next a)

pub mark_more : (e : Ending) (p a : ℕ) → joined_mark (mark_of p a) (kind_of (ended_of e)) ≡ mark_of (p + unit (by_primary e)) (a + unit (by_alternate e))
mark_more e p a = ap (joined_mark (mark_of p a)) (kind_is e) ∙ one_more (by_primary e) p a

-- ---- a job whose window has just opened
pub open_new : (works : ℕ → Work) (reports : ℕ → ℕ) (k : ℕ) (r : Row) (s : ℕ) → open_from works reports k r s s ≡ no_open
unfolding open_from new_job ending_of
open_new works reports k r s =
    let z : s - s ≡ 0 = omega arith in
    let u : primaries k works s s ≡ 0 = primaries_none k works s s (omega arith) in
    rw (u, z) refl
