-- `reserve::cycled::Cycled::pass`. The loop's invariant: the rows so far have had their turn.
use mathlib.Core.Path.{◌≡◌}
use lib.ListN.{length}
use Rattle.table.specs.Rows.{used}
use Rattle.reserve.proofs.Pass.{Passing}
use Rattle.reserve.proofs.cycled.Cycled.pass.Given as goal

abbrev pub invariant-loop-i : goal.invariant-loop-i
invariant-loop-i l = (length l.rests ≡ 16) × Passing (used l.self.table) l.clock l.left l.s l.initial.rests l.i l.rests l.holder l.short
