-- Each contract settles its function's result, and each lent byte at exit.
-- Assumes nothing.
use mathlib.Core.Path.{sym, ◌∙◌}
use Rattle.refusal.proofs.Settles.{Settles, SettlesLent}
use Rattle.slots.proofs.fresh.Kinds as fresh-kinds
use Rattle.slots.proofs.fresh.Reads as fresh
use Rattle.slots.proofs.lost_fresh.Kinds as lost-fresh-kinds
use Rattle.slots.proofs.lost_fresh.Reads as lost-fresh
use Rattle.slots.proofs.Record.what_runs.Kinds as what-runs-kinds
use Rattle.slots.proofs.Record.what_runs.Reads as what-runs
use Rattle.slots.proofs.Record.waiting.Kinds as waiting-kinds
use Rattle.slots.proofs.Record.waiting.Reads as waiting
use Rattle.slots.proofs.Record.step.Kinds as step-kinds
use Rattle.slots.proofs.Record.step.Reads as step
use Rattle.slots.proofs.Record.run.Kinds as run_kinds
use Rattle.slots.proofs.Record.run.Reads as run
use Rattle.slots.proofs.Record.lost.Kinds as lost-kinds
use Rattle.slots.proofs.Record.lost.Reads as lost

pub fresh_unique : Settles 0 fresh-kinds.ps fresh-kinds.r fresh.Post
fresh_unique κs a x y s t p q = p ∙ sym q

pub lost_fresh_unique : Settles 1 lost-fresh-kinds.ps lost-fresh-kinds.r lost-fresh.Post
lost_fresh_unique κs a x y s t p q = p ∙ sym q

pub what_runs_unique : Settles 0 what-runs-kinds.ps what-runs-kinds.r what-runs.Post
what_runs_unique κs a x y s t p q = p ∙ sym q

pub waiting_unique : Settles 0 waiting-kinds.ps waiting-kinds.r waiting.Post
waiting_unique κs a x y s t p q = p ∙ sym q

pub step_unique : Settles 0 step-kinds.ps step-kinds.r step.Post
step_unique κs a x y s t p q = p ∙ sym q

-- the lent log is the fourth parameter, and the lent buffer the fifth
pub run_unique : SettlesLent 3 run_kinds.ps run_kinds.r (λ κs s. s.1.1.1.0.now) run.Post
run_unique κs a x y s t p q = (p.0 ∙ sym q.0, p.1.0 ∙ sym q.1.0)

pub run_unique_buffer : SettlesLent 3 run_kinds.ps run_kinds.r (λ κs s. s.1.1.1.1.0.now) run.Post
run_unique_buffer κs a x y s t p q = (p.0 ∙ sym q.0, p.1.1 ∙ sym q.1.1)

pub lost_unique : Settles 1 lost-kinds.ps lost-kinds.r lost.Post
lost_unique κs a x y s t p q = p ∙ sym q
