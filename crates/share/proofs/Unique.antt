-- The contract settles the function's result.
-- Assumes nothing.
use mathlib.Core.Path.{sym, ◌∙◌}
use Rattle.refusal.proofs.Settles.{Settles}
use Rattle.share.proofs.divide.Kinds as divide-kinds
use Rattle.share.proofs.divide.Reads as divide

-- by the answer; its bits follow
pub divide_unique : Settles 0 divide-kinds.ps divide-kinds.r divide.Post
divide_unique κs a x y s t p q = p.0 ∙ sym q.0
