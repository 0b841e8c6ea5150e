-- `bagreport::due::starts_at` meets its contract.
use mathlib.Core.Path.{refl}
use Rattle.table.specs.Windows.{starts}
use Rattle.bagreport.proofs.due.starts_at.Goals as goal

pub returns : goal.returns
unfolding starts
returns c = refl
