-- What a slot adds to the lost units: to those of a list of reports, and row by row.
-- Assumes nothing.
use mathlib.Core.Path.{◌≡◌, refl, sym, ◌∙◌}
use mathlib.Core.List.{List, [], ◌∷◌}
use Prim.Native.Nat.{ℕ, ◌+◌}
use lib.ListN.{length}
use borrow.Author.Tests.{ne_eqb}
use Rattle.table.specs.declared.Row.{Row}
use Rattle.slots.specs.declared.Job.{Job}
use Rattle.slots.specs.declared.Record.{Record}
use Rattle.slots.specs.Records.{job_at}
use Rattle.slots.specs.OneSlot.{Work, idle, primary, alternate, what, step_of}
use Rattle.slots.specs.History.{is_alternate}
use Rattle.slots.specs.LostUnits.{sum}
use Rattle.slots.specs.Turns.{loss_at, lost_by}
use Rattle.slots.proofs.SlotActs.{InRows}
use Rattle.slots.proofs.Sums.{sum_zero, sum_one}
use Rattle.slots.proofs.LostJobs.{loss_of, loss_not, loss_here}

-- ---- by the list's first report
pub by_none : (rs : List Row) (q : Record) → lost_by rs q [] ≡ 0
unfolding lost_by
by_none rs q = refl

pub by_more : (rs : List Row) (q : Record) (rep : ℕ) (reps : List ℕ) → lost_by rs q (rep ∷ reps) ≡ loss_at q.jobs (what rs q) + lost_by rs (step_of rs q rep) reps
unfolding lost_by
by_more rs q rep reps = refl

-- ---- only the row that runs adds
pub loss_rows : (rs : List Row) (js : List Job) (w : Work) → InRows rs w → loss_at js w ≡ sum (λ k. loss_of (job_at js k) k w) (length rs)
unfolding loss_at is_alternate
loss_rows rs js idle o = sym (sum_zero (λ k. loss_of (job_at js k) k idle) (length rs) (λ k l. loss_not (job_at js k) k idle refl))
loss_rows rs js (primary i) o = sym (sum_zero (λ k. loss_of (job_at js k) k (primary i)) (length rs) (λ k l. loss_not (job_at js k) k (primary i) refl))
loss_rows rs js (alternate i) o =
    sym
    (sum_one (λ k. loss_of (job_at js k) k (alternate i)) (length rs) i o (λ k l ne. loss_not (job_at js k) k (alternate i) (ne_eqb i k (λ e. ne (sym e))))
    ∙ loss_here (job_at js i) i)
