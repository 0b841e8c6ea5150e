-- `bagreport::no_shares` meets its contract.
use mathlib.Core.Path.{refl}
use lib.Ieee.{round, of_bits}
use Rattle.bagreport.proofs.no_shares.Goals as goal

pub returns : goal.returns
unfolding round of_bits
returns c = refl
