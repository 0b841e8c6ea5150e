-- `replay::replay`: what its loop keeps.
use Prim.Native.Nat.{◌*◌}
use Rattle.replay.specs.Turns.{Replayed}
use Rattle.replay.proofs.replay.Given as goal

abbrev pub invariant-loop : goal.invariant-loop
invariant-loop l = Replayed l.fn.t (1024 * l.counter) l.p
