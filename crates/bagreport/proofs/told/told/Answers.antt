-- `bagreport::told::told` meets its contract.
use native.Mathlib.Omega.{arith}
use borrow.Author.Rules.{rules}
use Rattle.slots.proofs.SlotCases.{byte_idle, byte_primary, byte_alternate}
use Rattle.bagreport.specs.Turns.{told_by}
use Rattle.bagreport.proofs.told.told.Goals as goal

pub returns-in-0 : goal.returns-in-0
unfolding told_by
returns-in-0 c = rw (byte_idle c.args.ran c.in-0.is)

pub returns-in-1-to-16 : goal.returns-in-1-to-16
unfolding told_by
returns-in-1-to-16 c = rw (byte_primary c.args.ran (λ z. omega arith) (omega arith)) (search rules)

pub returns-in-17-to-255 : goal.returns-in-17-to-255
unfolding told_by
returns-in-17-to-255 c = rw (byte_alternate c.args.ran (omega arith)) (search rules)
