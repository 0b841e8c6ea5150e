-- `reserve::cycled::Cycled::put_firsts`. The loop's invariant: the first slots of the rows so far are written, up to the place `at`.
use Rattle.table.specs.Rows.{used}
use Rattle.reserve.proofs.Scanning.{PutRows}
use Rattle.reserve.proofs.cycled.Cycled.put_firsts.Given as goal

abbrev pub invariant-loop-i : goal.invariant-loop-i
invariant-loop-i l = PutRows (used l.fn.self.table) l.initial.out l.out l.at l.i
