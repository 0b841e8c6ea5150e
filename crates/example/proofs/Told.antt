-- The byte that the question answers tells whether a fixed dose runs.
-- Assumes nothing.
use mathlib.Core.Path.{◌≡◌, ap}
use Prim.Native.Nat.{ℕ}
use lib.Dec.{ltb}
use Rattle.std.specs.Prelude.{Result}
use Rattle.std.specs.Result.{result_unwrap_or}
use Rattle.refusal.specs.declared.Refusal.{Refusal}
use Rattle.table.specs.declared.Table.{Table}
use Rattle.slots.specs.declared.Record.{Record}
use Rattle.slots.specs.Answers.{asked_of}
use Rattle.example.specs.FixedDose.{fixed_dose}

pub told : (t : Table) (q : Record) (asked : Result ℕ Refusal) → asked ≡ asked_of t q → ltb 16 (result_unwrap_or asked 0) ≡ fixed_dose t q
unfolding fixed_dose
told t q asked e = ap (λ (a : Result ℕ Refusal). ltb 16 (result_unwrap_or a 0)) e
