-- `replay::length_field` meets its contract.
use native.Mathlib.Omega.{arith}
use Rattle.tablefile.specs.Layout.{word_at}
use Rattle.replay.proofs.length_field.Goals as goal

pub returns : goal.returns
unfolding word_at
returns c = (omega (arith, c.from_be_bytes.ensures), omega arith)
