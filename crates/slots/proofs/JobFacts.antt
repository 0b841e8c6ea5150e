-- One job: what a unit and its report do to it, and what it has where it fits its row.
-- Assumes nothing.
use mathlib.Core.Path.{◌≡◌, refl, subst}
use mathlib.Core.Logic.{◌≢◌, ◌⊎◌, inl, inr}
use mathlib.Core.Bool.{Bool, true, false, cond, ◌&&◌}
use Prim.Native.Nat.{ℕ, zero, suc, ◌+◌, ◌-◌, ◌≤◌, ◌<◌}
use native.Mathlib.Omega.{arith}
use lib.Dec.{ltb, leb, eqb}
use borrow.Author.Tests.{eqb-true, eqb-false, eq-eqb, ltb-true, lt-ltb, leb-true, le-leb}
use Rattle.table.specs.declared.Row.{Row}
use Rattle.table.proofs.Good.{Good}
use Rattle.rule.proofs.Tests.{and_left, and_right, and_both}
use Rattle.slots.specs.declared.State.{State}
use Rattle.slots.specs.declared.State.TheVariants.{Waiting, Failed, Done}
use Rattle.slots.specs.declared.Job.{Job}
use Rattle.slots.specs.Records.{new_job}
use Rattle.slots.specs.Sound.{state_fits, job_fits}
use Rattle.slots.specs.OneSlot.{abandoned, on_primary, on_alternate}

-- no other state is done
pub waiting_not_done : Waiting ≢ Done
waiting_not_done e = let z : ◌≡◌ {A = ℕ} 0 1 = cc in omega arith

pub failed_not_done : Failed ≢ Done
failed_not_done e = let z : ◌≡◌ {A = ℕ} 0 1 = cc in omega arith

-- ---- a new job
pub new_job_lem : (r : Row) → ((new_job r).state ≡ Waiting) × ((new_job r).run ≡ 0) × ((new_job r).left ≡ r.alternate)
unfolding new_job
new_job_lem r = (refl, refl, refl)

-- ---- a primary unit, by its report
pub primary_units : (rep : ℕ) (r : Row) (j : Job) → (on_primary rep r j).run ≡ suc j.run
unfolding on_primary
primary_units zero r j = omega arith
primary_units (suc zero) r j = omega arith
primary_units (suc (suc n)) r j = omega arith

pub primary_left : (rep : ℕ) (r : Row) (j : Job) → (on_primary rep r j).left ≤ j.left
unfolding on_primary
primary_left zero r j = omega arith
primary_left (suc zero) r j = omega arith
primary_left (suc (suc n)) r j = omega arith

pub primary_done : (r : Row) (j : Job) → ((on_primary 1 r j).state ≡ Done) × ((on_primary 1 r j).left ≡ 0)
unfolding on_primary
primary_done r j = (refl, refl)

-- reported done, or what is left stays and the job isn't done
pub primary_cases : (rep : ℕ) (r : Row) (j : Job) → (rep ≡ 1) ⊎ (((on_primary rep r j).left ≡ j.left) × ((on_primary rep r j).state ≢ Done))
unfolding on_primary
primary_cases zero r j = inr (refl, neither (eqb (j.run + 1) r.primary))
  where
    neither : (b : Bool) → cond b Failed Waiting ≢ Done
    neither true = failed_not_done
    neither false = waiting_not_done
primary_cases (suc zero) r j = inl refl
primary_cases (suc (suc n)) r j = inr (refl, failed_not_done)

-- ---- an alternate unit
pub alternate_units : (j : Job) → ((on_alternate j).run ≡ j.run) × ((on_alternate j).left ≡ j.left - 1)
unfolding on_alternate
alternate_units j = (refl, refl)

pub alternate_state : (j : Job) → j.state ≢ Done → (on_alternate j).state ≡ Failed
unfolding on_alternate
alternate_state j h = go j.state h
  where
    go : (x : State) → x ≢ Done → abandoned x ≡ Failed
    go Waiting n = refl
    go Failed n = refl
    go Done n = absurd (n refl)

-- ---- what a job of each state has
module _ (p a u l : ℕ) where
  waiting_if : u < p → l ≡ a → state_fits Waiting p a u l ≡ true
  waiting_if h k = and_both (ltb u p) (eqb l a) (lt-ltb u p h) (eq-eqb l a k)

  failed_if : u ≤ p → l ≤ a → state_fits Failed p a u l ≡ true
  failed_if h k = and_both (leb u p) (leb l a) (le-leb u p h) (le-leb l a k)

  done_if : 1 ≤ u → u ≤ p → l ≡ 0 → state_fits Done p a u l ≡ true
  done_if g h k = and_both (leb 1 u) (leb u p && eqb l 0) (le-leb 1 u g) (and_both (leb u p) (eqb l 0) (le-leb u p h) (eq-eqb l 0 k))

  if_waiting : state_fits Waiting p a u l ≡ true → (u < p) × (l ≡ a)
  if_waiting f = (ltb-true u p (and_left (ltb u p) (eqb l a) f), eqb-true l a (and_right (ltb u p) (eqb l a) f))

  if_failed : state_fits Failed p a u l ≡ true → (u ≤ p) × (l ≤ a)
  if_failed f = (leb-true u p (and_left (leb u p) (leb l a) f), leb-true l a (and_right (leb u p) (leb l a) f))

  if_done : state_fits Done p a u l ≡ true → (1 ≤ u) × (u ≤ p) × (l ≡ 0)
  if_done f =
      let rest : (leb u p && eqb l 0) ≡ true = and_right (leb 1 u) (leb u p && eqb l 0) f in
      (leb-true 1 u (and_left (leb 1 u) (leb u p && eqb l 0) f), leb-true u p (and_left (leb u p) (eqb l 0) rest), eqb-true l 0 (and_right (leb u p) (eqb l 0) rest))

  -- in any state
  if_any : (x : State) → state_fits x p a u l ≡ true → u ≤ p
  if_any Waiting f = omega (arith, (if_waiting f).0)
  if_any Failed f = (if_failed f).0
  if_any Done f = (if_done f).1

-- ---- a job that fits its row
module _ (r : Row) (j : Job) where
  abbrev Fits : State → Type 0
  Fits x = state_fits x r.primary r.alternate j.run j.left ≡ true

  as_state : (x : State) → j.state ≡ x → job_fits r j ≡ true → Fits x
  unfolding job_fits
  as_state x e f = subst Fits e f

  pub waiting_fits : j.state ≡ Waiting → job_fits r j ≡ true → (j.run < r.primary) × (j.left ≡ r.alternate)
  waiting_fits e f = if_waiting r.primary r.alternate j.run j.left (as_state Waiting e f)

  pub done_left : j.state ≡ Done → job_fits r j ≡ true → j.left ≡ 0
  done_left e f = (if_done r.primary r.alternate j.run j.left (as_state Done e f)).2

  pub fits_units : job_fits r j ≡ true → j.run ≤ r.primary
  unfolding job_fits
  fits_units f = if_any r.primary r.alternate j.run j.left j.state f

-- ---- what fits goes on fitting
pub new_fits : (r : Row) → Good r → job_fits r (new_job r) ≡ true
unfolding job_fits new_job
new_fits r good = waiting_if r.primary r.alternate 0 r.alternate good.primary refl

pub primary_fits : (rep : ℕ) (r : Row) (j : Job) → j.state ≡ Waiting → job_fits r j ≡ true → job_fits r (on_primary rep r j) ≡ true
unfolding job_fits on_primary
primary_fits zero r j e f = go (eqb (j.run + 1) r.primary) refl (waiting_fits r j e f)
  where
    go : (b : Bool) → eqb (j.run + 1) r.primary ≡ b → (j.run < r.primary) × (j.left ≡ r.alternate)
        → state_fits (cond b Failed Waiting) r.primary r.alternate (j.run + 1) j.left ≡ true
    go true q h = failed_if r.primary r.alternate (j.run + 1) j.left (omega arith) (omega arith)
    go false q h =
        let ne : j.run + 1 ≢ r.primary = eqb-false (j.run + 1) r.primary q in
        waiting_if r.primary r.alternate (j.run + 1) j.left (omega arith) (omega arith)
primary_fits (suc zero) r j e f =
    let h : (j.run < r.primary) × (j.left ≡ r.alternate) = waiting_fits r j e f in
    done_if r.primary r.alternate (j.run + 1) 0 (omega arith) (omega arith) refl
primary_fits (suc (suc n)) r j e f =
    let h : (j.run < r.primary) × (j.left ≡ r.alternate) = waiting_fits r j e f in
    failed_if r.primary r.alternate (j.run + 1) j.left (omega arith) (omega arith)

pub alternate_fits : (r : Row) (j : Job) → job_fits r j ≡ true → job_fits r (on_alternate j) ≡ true
unfolding job_fits on_alternate
alternate_fits r j f = go j.state f
  where
    p : ℕ
    p = r.primary

    a : ℕ
    a = r.alternate

    go : (x : State) → state_fits x p a j.run j.left ≡ true → state_fits (abandoned x) p a j.run (j.left - 1) ≡ true
    go Waiting h = let b : (j.run < p) × (j.left ≡ a) = if_waiting p a j.run j.left h in failed_if p a j.run (j.left - 1) (omega arith) (omega arith)
    go Failed h = let b : (j.run ≤ p) × (j.left ≤ a) = if_failed p a j.run j.left h in failed_if p a j.run (j.left - 1) (omega arith) (omega arith)
    go Done h =
        let b : (1 ≤ j.run) × (j.run ≤ p) × (j.left ≡ 0) = if_done p a j.run j.left h in
        done_if p a j.run (j.left - 1) b.0 b.1 (omega (arith, b.2))
