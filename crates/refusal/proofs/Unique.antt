-- Each contract settles its function's result.
-- Assumes nothing.
use mathlib.Core.Path.{sym, ◌∙◌}
use Rattle.refusal.proofs.Settles.{Settles}
use Rattle.refusal.proofs.Refusal.number.Kinds as number-kinds
use Rattle.refusal.proofs.Refusal.number.Reads as number
use Rattle.refusal.proofs.Refusal.named_row.Kinds as named-row-kinds
use Rattle.refusal.proofs.Refusal.named_row.Reads as named-row
use Rattle.refusal.proofs.number.Kinds as number-told-kinds
use Rattle.refusal.proofs.number.Reads as number-told
use Rattle.refusal.proofs.named_row.Kinds as row-told-kinds
use Rattle.refusal.proofs.named_row.Reads as row-told

pub number_unique : Settles 0 number-kinds.ps number-kinds.r number.Post
number_unique κs a x y s t p q = p ∙ sym q

pub named_row_unique : Settles 0 named-row-kinds.ps named-row-kinds.r named-row.Post
named_row_unique κs a x y s t p q = p ∙ sym q

-- of an answer that may be refused
pub number_told_unique : Settles 0 number-told-kinds.ps number-told-kinds.r number-told.Post
number_told_unique κs a x y s t p q = p ∙ sym q

pub row_told_unique : Settles 0 row-told-kinds.ps row-told-kinds.r row-told.Post
row_told_unique κs a x y s t p q = p ∙ sym q
