-- What a slot's unit does to its one entry is what it does to the record: the entries, the waiting set and what is lost.
-- Assumes nothing.
use mathlib.Core.Path.{◌≡◌, refl, sym, ap, ◌∙◌}
use mathlib.Core.Logic.{⊎_elim}
use mathlib.Core.Bool.{Bool, true, false, cond, not, ◌&&◌}
use mathlib.Core.List.{List}
use Prim.Native.Nat.{ℕ, ◌-◌, ◌^◌, ◌<◌}
use native.Mathlib.Omega.{arith}
use borrow.Author.Tests.{eqb-true, eqb-false}
use lib.Dec.{eqb}
use lib.ListN.{length, get_or, set}
use lib.Seq.{set-get_or, get_or-set_same, get_or-set_other}
use Rattle.table.specs.declared.Row.{Row}
use Rattle.table.specs.declared.Table.{Table}
use Rattle.table.specs.Rows.{used, blank, row_at}
use Rattle.rule.proofs.Tests.{split, never}
use Rattle.slots.specs.declared.State.{State}
use Rattle.slots.specs.declared.State.TheVariants.{Waiting, Failed, Done}
use Rattle.slots.specs.declared.Job.{Job}
use Rattle.slots.specs.Records.{no_job, job_at}
use Rattle.slots.specs.OneSlot.{Work, idle, primary, alternate, is_waiting, abandoned, waits, on_alternate, worked}
use Rattle.slots.specs.WaitingSet.{set_from}
use Rattle.slots.specs.History.{work_of}
use Rattle.slots.specs.Turns.{entry_of, Workable, moved_by, loss_by, loss_at}
use Rattle.slots.proofs.EntryLoops.{row_used}
use Rattle.slots.proofs.SetLaws.{set_same, set_less}

-- ---- the entries, and what is lost
module _ (rep : ℕ) (rs : List Row) (js : List Job) where
  pub moves_worked : (w : Work) → set js (entry_of w) (moved_by w rep (row_at rs (entry_of w)) (job_at js (entry_of w))) ≡ worked w rep rs js
  unfolding entry_of moved_by worked
  moves_worked idle = set-get_or js 0 no_job
  moves_worked (primary k) = refl
  moves_worked (alternate k) = refl

pub moves_lost : (js : List Job) (w : Work) → loss_by w (job_at js (entry_of w)) ≡ loss_at js w
unfolding entry_of loss_by loss_at
moves_lost js idle = refl
moves_lost js (primary k) = refl
moves_lost js (alternate k) = refl

-- ---- the waiting set, where the entry at one place changes
module _ (js : List Job) (n at : ℕ) (place : at < n) (entry : at < length js) (k : Job) where
  abbrev before : Bool
  before = is_waiting (job_at js at).state

  abbrev now : Bool
  now = is_waiting k.state

  other : (i : ℕ) → (i ≡ at → ⊥) → waits js i ≡ waits (set js at k) i
  other i ne = sym (ap (λ (j : Job). is_waiting j.state) (get_or-set_other js at i k no_job ne))

  there : waits (set js at k) at ≡ now
  there = ap (λ (j : Job). is_waiting j.state) (get_or-set_same js at k no_job entry)

  -- no job begins to wait by a unit
  pub moves_set : (before ≡ false → now ≡ false) → cond (before && not now) (set_from (waits js) 0 n - 2 ^ at) (set_from (waits js) 0 n) ≡ set_from (waits (set js at k)) 0 n
  moves_set stays = go before now refl refl
    where
      same : waits js at ≡ waits (set js at k) at → set_from (waits js) 0 n ≡ set_from (waits (set js at k)) 0 n
      same e = set_same (waits js) (waits (set js at k)) 0 n (λ i l u. each i)
        where
          each : (i : ℕ) → waits js i ≡ waits (set js at k) i
          each i = ⊎_elim (λ (q : eqb i at ≡ true). rw (eqb-true i at q) e) (λ (q : eqb i at ≡ false). other i (eqb-false i at q)) (split (eqb i at))

      go : (b c : Bool) → before ≡ b → now ≡ c → cond (before && not now) (set_from (waits js) 0 n - 2 ^ at) (set_from (waits js) 0 n) ≡ set_from (waits (set js at k)) 0 n
      go true true h e = rw (h, e) (same (h ∙ sym (there ∙ e)))
      go true false h e =
          let z : at - 0 ≡ at = omega arith in
          rw (h, e) (sym (rw z at (set_less (waits js) (waits (set js at k)) 0 n at (omega arith) (omega arith) h (there ∙ e) other)))
      go false c h e = rw h (same (h ∙ sym (there ∙ stays h)))

-- a unit that is allowed keeps from waiting whom it finds so
pub moves_stay : (w : Work) (rep : ℕ) (r : Row) (j : Job) → ((k : ℕ) → w ≡ primary k → j.state ≡ Waiting) → is_waiting j.state ≡ false → is_waiting (moved_by w rep r j).state ≡ false
unfolding moved_by on_alternate
moves_stay idle rep r j a h = h
moves_stay (primary k) rep r j a h = never (ap is_waiting (a k refl)) h
moves_stay (alternate k) rep r j a h = fallen j.state h
  where
    fallen : (x : State) → is_waiting x ≡ false → is_waiting (abandoned x) ≡ false
    fallen Waiting e = never refl e
    fallen Failed e = refl
    fallen Done e = refl

-- ---- as one slot's code has it
module _ (t : Table) (js : List Job) (ran : ℕ) (g : Workable t js ran) (at : ℕ) (e : at ≡ entry_of (work_of ran)) where
  pub unit_moved : (report : ℕ) (j : Job) → j ≡ moved_by (work_of ran) report (get_or t.rows at blank) (get_or js at no_job) → set js at j ≡ worked (work_of ran) report (used t) js
  unit_moved report j h =
      ap (set js at) (h ∙ ap (λ (r : Row). moved_by (work_of ran) report r (get_or js at no_job)) (row_used t at (omega (arith, e, g.row))))
      ∙ ap (λ (n : ℕ). set js n (moved_by (work_of ran) report (row_at (used t) n) (get_or js n no_job))) e
      ∙ moves_worked report (used t) js (work_of ran)
