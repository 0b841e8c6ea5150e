-- `replay::read_file` meets its contract.
use native.Mathlib.Omega.{arith}
use Rattle.replay.proofs.Replaying.{field_kept}
use Rattle.replay.proofs.read_file.Goals as goal

pub returns-clause-file : goal.returns-clause-file
returns-clause-file c = omega (arith, c.length_field-end.ensures.0, c.read_part.ensures.count, field_kept c.read_part.new.buffer c.read_part-head.new.buffer c.read_part.ensures.before)
