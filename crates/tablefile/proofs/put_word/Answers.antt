-- `tablefile::put_word` meets its contract.
use native.Mathlib.Omega.{arith}
use mathlib.Core.Path.{◌∙◌}
use Rattle.tablefile.proofs.WriteCases.{word_put}
use Rattle.tablefile.proofs.put_word.Goals as goal

pub returns : goal.returns
returns c = word_put _ _ _ _ _ c.requires (omega arith) c.ranges.w.fits (c.copy_from_slice.ensures.after ∙ c.to_be_bytes.ensures)
