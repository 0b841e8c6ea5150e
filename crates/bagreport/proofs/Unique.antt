-- The contract settles the bag report, and each lent byte at exit.
-- Assumes nothing.
use mathlib.Core.Path.{sym, ◌∙◌}
use Rattle.refusal.proofs.Settles.{SettlesLent}
use Rattle.bagreport.proofs.report.Kinds as report_kinds
use Rattle.bagreport.proofs.report.Reads as report

-- the lent bytes are the fifth parameter
pub report_unique : SettlesLent 3 report_kinds.ps report_kinds.r (λ κs s. s.1.1.1.1.0.now) report.Post
report_unique κs a x y s t p q = (p.0 ∙ sym q.0, p.1 ∙ sym q.1)
