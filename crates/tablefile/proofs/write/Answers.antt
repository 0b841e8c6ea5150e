-- `tablefile::write` meets its contract.
use native.Mathlib.Omega.{arith}
use lib.ListN.{length-set}
use Rattle.std.proofs.Common.{rules}
use Rattle.table.proofs.Lists.{long}
use Rattle.reserve.proofs.HandedOut.{handed_refused, kept_refused, handed_short, kept_short, handed_none, set_over}
use Rattle.tablefile.proofs.WriteCases.{write_rows, write_size, file_put}
use Rattle.tablefile.proofs.write.Goals as goal

pub returns-in_err-check-clause-answer : goal.returns-in_err-check-clause-answer
returns-in_err-check-clause-answer c = search (rules, handed_refused)

pub returns-in_err-check-clause-bytes : goal.returns-in_err-check-clause-bytes
returns-in_err-check-clause-bytes c = search (rules, kept_refused)

pub returns-then-out-size-clause-answer : goal.returns-then-out-size-clause-answer
returns-then-out-size-clause-answer c = search (rules, handed_short, write_size, long)

pub returns-then-out-size-clause-bytes : goal.returns-then-out-size-clause-bytes
returns-then-out-size-clause-bytes c = search (rules, kept_short, write_size, long)

pub bounds-out-3 : goal.bounds-out-3
bounds-out-3 c = simp length-set (omega arith)

pub put_rows-requires : goal.put_rows-requires
put_rows-requires c = simp length-set (omega (arith, write_rows c.args.t _ c.rows.ensures.rows))

pub returns-clause-answer : goal.returns-clause-answer
returns-clause-answer c = search (rules, handed_none, write_size, long)

pub returns-clause-bytes : goal.returns-clause-bytes
returns-clause-bytes c =
    let put = rw c.rows.ensures.rows at c.put_rows.ensures in
    search (rules, set_over, file_put, write_size, long, put)
