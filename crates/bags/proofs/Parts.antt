-- The length of an array of one value, and how many rows an accepted table has.
-- Assumes nothing.
use Rattle.std.specs.Prelude.{None}
use mathlib.Core.Path.{◌≡◌, sym}
use Prim.Native.Nat.{ℕ, ◌≤◌}
use lib.ListN.{length, replicate, length-replicate}
use Rattle.table.specs.declared.Table.{Table}
use Rattle.reserve.specs.Check.{table_refusal}
use Rattle.reserve.proofs.Verdict.{table_accepted}

pub room_is : (n x : ℕ) → n ≡ length (replicate n x)
room_is n x = sym (length-replicate n x)

pub rows_few : (t : Table) → table_refusal t ≡ None → t.n ≤ 16
rows_few t e = (table_accepted t e).few
