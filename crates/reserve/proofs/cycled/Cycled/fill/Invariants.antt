-- `reserve::cycled::Cycled::fill`. The loop's invariant: the rests are ready for the next slot down, and the slots passed have their holders' bytes.
use Rattle.reserve.proofs.Sweeps.{Sweeping, Filling}
use Rattle.reserve.proofs.cycled.Cycled.fill.Given as goal

abbrev pub invariant-loop-s : goal.invariant-loop-s
invariant-loop-s l = Sweeping l.self.table l.self.cycle 0 l.left l.rests l.s × Filling l.self.table l.self.cycle 0 l.left l.initial.out l.out l.s
