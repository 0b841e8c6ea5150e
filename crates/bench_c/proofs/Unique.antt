-- Each contract settles its function's result, and each lent byte at exit.
-- Assumes nothing.
use mathlib.Core.Path.{sym, ◌∙◌}
use Rattle.refusal.proofs.Settles.{SettlesLent}
use Rattle.bench_c.proofs.bench_bags.Kinds as bags_kinds
use Rattle.bench_c.proofs.bench_bags.Reads as bags
use Rattle.bench_c.proofs.bench_run.Kinds as run_kinds
use Rattle.bench_c.proofs.bench_run.Reads as run
use Rattle.bench_c.proofs.bench_steps.Kinds as steps_kinds
use Rattle.bench_c.proofs.bench_steps.Reads as steps

-- the lent log is the third parameter, and the lent buffer the fourth
pub run_unique : SettlesLent 4 run_kinds.ps run_kinds.r (λ κs s. s.1.1.0.now) run.Post
run_unique κs a x y s t p q = (p.0 ∙ sym q.0, p.1.0 ∙ sym q.1.0)

pub run_buffer_unique : SettlesLent 4 run_kinds.ps run_kinds.r (λ κs s. s.1.1.1.0.now) run.Post
run_buffer_unique κs a x y s t p q = (p.0 ∙ sym q.0, p.1.1 ∙ sym q.1.1)

pub steps_unique : SettlesLent 3 steps_kinds.ps steps_kinds.r (λ κs s. s.1.1.0.now) steps.Post
steps_unique κs a x y s t p q = (p.0 ∙ sym q.0, p.1 ∙ sym q.1)

-- the lent bytes of the bags are the fifth parameter
pub bags_unique : SettlesLent 3 bags_kinds.ps bags_kinds.r (λ κs s. s.1.1.1.1.0.now) bags.Post
bags_unique κs a x y s t p q = (p.0 ∙ sym q.0, p.1 ∙ sym q.1)
