-- `reserve::cycled::Cycled::down`. The loop's invariant: the rests are ready for the next slot down, and the holder of the slot passed last and the lowest row
-- that is short so far are found.
use Rattle.reserve.proofs.Sweeps.{Sweeping, Finding}
use Rattle.reserve.proofs.cycled.Cycled.down.Given as goal

abbrev pub invariant-loop-s : goal.invariant-loop-s
invariant-loop-s l = Sweeping l.self.table l.self.cycle l.clock l.left l.rests l.s × Finding l.self.table l.self.cycle l.clock l.left l.s l.holder l.short
