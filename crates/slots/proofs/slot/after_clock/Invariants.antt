-- `slots::slot::after_clock`. The loop's invariant: the entries of the rows so far are those as the clock comes to c.
use mathlib.Core.Path.{◌≡◌}
use lib.ListN.{take}
use Rattle.slots.specs.OneSlot.{renewed}
use Rattle.slots.proofs.slot.after_clock.Given as goal

abbrev pub invariant-loop-i : goal.invariant-loop-i
invariant-loop-i l = l.next ≡ renewed l.c (take l.i l.row-items) l.jobs
