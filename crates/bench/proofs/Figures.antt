-- The figures of a run's answer.
-- Assumes nothing.
use mathlib.Core.Path.{◌≡◌, refl}
use Prim.Native.Nat.{ℕ, ◌+◌, ◌*◌, ◌<◌, ◌≤◌}
use native.Mathlib.Omega.{arith}
use borrow.Author.Tests.{lt-ltb, le-ltb}
use Rattle.slots.specs.declared.State.{State}
use Rattle.slots.specs.declared.State.TheVariants.{Waiting, Failed, Done}
use Rattle.slots.specs.declared.Ran.{Ran}
use Rattle.slots.specs.Records.{job_at}
use Rattle.bench.specs.Numbers.{state_number, job_number, figure_of}

pub number_waiting : (s : State) → s ≡ Waiting → 0 ≡ state_number s
unfolding state_number
number_waiting s e = rw e refl

pub number_failed : (s : State) → s ≡ Failed → 1 ≡ state_number s
unfolding state_number
number_failed s e = rw e refl

pub number_done : (s : State) → s ≡ Done → 2 ≡ state_number s
unfolding state_number
number_done s e = rw e refl

-- a state's number is less than 3, so a job's is far below 2^64
pub number_few : (s : State) → state_number s < 3
unfolding state_number
number_few Waiting = omega arith
number_few Failed = omega arith
number_few Done = omega arith

pub number_fits : (l u n : ℕ) (s : State) → l < 65536 → u < 65536 → n ≡ state_number s → (l * 65536 + u) * 3 + n < 18446744073709551616
number_fits l u n s a b e = omega (arith, e, number_few s)

-- a figure of a run's answer
pub figure_job : (ran : Ran) (i n : ℕ) → i < 16 → n ≡ job_number (job_at ran.next.jobs i) → n ≡ figure_of ran i
unfolding figure_of
figure_job ran i n l e = rw (lt-ltb i 16 l) e

pub figure_clock : (ran : Ran) (i : ℕ) → 16 ≤ i → i < 17 → ran.next.clock ≡ figure_of ran i
unfolding figure_of
figure_clock ran i l u = rw (le-ltb i 16 l) (rw (lt-ltb i 17 u) refl)

pub figure_slots : (ran : Ran) (i : ℕ) → 16 ≤ i → 17 ≤ i → ran.slots ≡ figure_of ran i
unfolding figure_of
figure_slots ran i l u = rw (le-ltb i 16 l) (rw (le-ltb i 17 u) refl)
