-- The contract settles the function's result.
-- Assumes nothing.
use mathlib.Core.Path.{sym, ◌∙◌}
use Rattle.refusal.proofs.Settles.{Settles}
use Rattle.example.proofs.fixed_dose_runs.Kinds as kinds
use Rattle.example.proofs.fixed_dose_runs.Reads as reads

pub fixed_dose_runs_unique : Settles 0 kinds.ps kinds.r reads.Post
fixed_dose_runs_unique κs a x y s t p q = p ∙ sym q
