-- `slots::opening::window_end` meets its contract.
use mathlib.Core.Path.{refl}
use Rattle.table.specs.Windows.{window_end}
use Rattle.slots.proofs.Openings.{end_room, end_fits}
use Rattle.slots.proofs.opening.window_end.Goals as goal

pub overflow_add-result : goal.overflow_add-result
overflow_add-result c = search (end_room)

pub overflow_mul-result : goal.overflow_mul-result
overflow_mul-result c = search (end_fits)

pub returns : goal.returns
unfolding window_end
returns c = refl
