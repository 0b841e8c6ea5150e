-- Each public function's contract settles its result.
-- Assumes nothing.
use mathlib.Core.Path.{◌≡◌, sym, ◌∙◌}
use contract.Lifetimes.{Lfts}
use borrow.Fn.Kinds.{Dens, res_t, ended_of}
use denote.Triple.Clauses.{AtExit}
use Rattle.refusal.proofs.Settles.{Settles}
use Rattle.table.proofs.gcd.Kinds as gcd-kinds
use Rattle.table.proofs.gcd.Reads as gcd
use Rattle.table.proofs.check_rows.Kinds as check-rows-kinds
use Rattle.table.proofs.check_rows.Reads as check-rows
use Rattle.table.proofs.Table.rows.Kinds as rows-kinds
use Rattle.table.proofs.Table.rows.Reads as rows

pub gcd_unique : Settles 0 gcd-kinds.ps gcd-kinds.r gcd.Post
gcd_unique κs a x y s t p q = p ∙ sym q

pub check_rows_unique : Settles 0 check-rows-kinds.ps check-rows-kinds.r check-rows.Post
check_rows_unique κs a x y s t p q = p ∙ sym q

-- a loan is told by the rows that it lends
pub rows_unique : (κs : Lfts 1) (a : Dens κs rows-kinds.ps) (x y : (res_t rows-kinds.r κs).Denot) (s t : AtExit (ended_of 1 rows-kinds.ps rows-kinds.r) κs) → rows.Post κs a x s → rows.Post κs a y t → x.now ≡ y.now
rows_unique κs a x y s t p q = p.0 ∙ sym q.0
