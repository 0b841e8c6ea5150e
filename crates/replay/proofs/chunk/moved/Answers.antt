-- `replay::chunk::moved` meets its contract.
use mathlib.Core.Path.{refl}
use native.Mathlib.Omega.{arith}
use Rattle.replay.proofs.ChunkCases.{moved_none, moved_refused}
use Rattle.replay.proofs.chunk.moved.Goals as goal

pub returns-in-None : goal.returns-in-None
returns-in-None c = moved_none _ _ _ _ c.in-None.is refl (omega arith) (omega arith) refl

pub returns-in-Some : goal.returns-in-Some
returns-in-Some c = moved_refused _ _ _ _ c.in-Some.f c.in-Some.is refl (omega arith) refl refl
