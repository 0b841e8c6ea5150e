-- `tablefile::put_row` meets its contract.
use Rattle.tablefile.proofs.WriteCases.{row_put}
use Rattle.tablefile.proofs.put_row.Goals as goal

pub returns : goal.returns
returns c = search (row_put)
