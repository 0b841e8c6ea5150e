-- Each contract settles its function's result, and each lent byte at exit.
-- Assumes nothing.
use mathlib.Core.Path.{sym, ◌∙◌}
use Rattle.refusal.proofs.Settles.{Settles, SettlesLent}
use Rattle.tablefile.proofs.read.Kinds as read-kinds
use Rattle.tablefile.proofs.read.Reads as read
use Rattle.tablefile.proofs.or_zeros.Kinds as or-zeros-kinds
use Rattle.tablefile.proofs.or_zeros.Reads as or-zeros
use Rattle.tablefile.proofs.write.Kinds as write-kinds
use Rattle.tablefile.proofs.write.Reads as write

pub read_unique : Settles 1 read-kinds.ps read-kinds.r read.Post
read_unique κs a x y s t p q = p ∙ sym q

-- the lent output is the second parameter
pub write_unique : SettlesLent 1 write-kinds.ps write-kinds.r (λ κs s. s.1.0.now) write.Post
write_unique κs a x y s t p q = (p.0 ∙ sym q.0, p.1 ∙ sym q.1)

pub or_zeros_unique : Settles 0 or-zeros-kinds.ps or-zeros-kinds.r or-zeros.Post
or_zeros_unique κs a x y s t p q = p ∙ sym q
