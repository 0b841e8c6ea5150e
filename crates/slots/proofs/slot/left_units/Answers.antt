-- `slots::slot::left_units` meets its contract.
use Rattle.std.proofs.Common.{rules}
use native.Mathlib.Omega.{arith}
use Rattle.slots.specs.Records.{no_job}
use Rattle.slots.proofs.EntryLoops.{left_each}
use Rattle.slots.proofs.slot.left_units.Goals as goal

pub returns : goal.returns
returns c = left_each _ _ (omega arith) (λ i l. let h = c.map.ensures.items.at i no_job 0 (omega arith) in search (rules, h.2))
