-- `tablefile::put_rows`. The loop's invariant: the rows so far stand in the bytes.
use Rattle.tablefile.proofs.WriteCases.{Put}
use Rattle.tablefile.proofs.put_rows.Given as goal

abbrev pub invariant-loop-i : goal.invariant-loop-i
invariant-loop-i l = Put l.rows l.initial.out l.out l.i
