-- `slots::fresh_jobs`. The loop's invariant: the entries are those of a fresh record of the rows so far.
use mathlib.Core.Path.{◌≡◌}
use lib.ListN.{take}
use Rattle.slots.specs.Records.{fresh_jobs}
use Rattle.slots.proofs.fresh_jobs.Given as goal

abbrev pub invariant-loop-i : goal.invariant-loop-i
invariant-loop-i l = l.jobs ≡ fresh_jobs (take l.i l.row-items)
