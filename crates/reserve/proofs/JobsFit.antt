-- The jobs of an accepted table are no more than the cycle's slots: each reserves a slot at least, and no slot is reserved twice.
-- Assumes nothing.
use Rattle.std.specs.Prelude.{None}
use mathlib.Core.Path.{◌≡◌}
use mathlib.Core.Bool.{not}
use mathlib.Core.List.{List}
use Prim.Native.Nat.{ℕ, zero, suc, ◌+◌, ◌≤◌, ◌<◌}
use native.Mathlib.Omega.{arith}
use lib.ListN.{length, length-append}
use Rattle.table.specs.declared.Row.{Row}
use Rattle.table.specs.declared.Table.{Table}
use Rattle.table.specs.Rows.{row_at, used, cycle_of}
use Rattle.table.specs.Windows.{opens, closes}
use Rattle.table.proofs.Cycle.{cycle_multiple}
use Rattle.table.proofs.Windows.{opens_first, closes_next, closes_count}
use Rattle.rule.specs.Slots.{within}
use Rattle.rule.specs.Rule.{between, held, takes}
use Rattle.rule.proofs.Counting.{within_same, within_later, within_all, within_join}
use Rattle.rule.proofs.Holders.{free_parted}
use Rattle.reserve.specs.Tables.{ends, whole}
use Rattle.reserve.specs.Check.{table_refusal}
use Rattle.reserve.specs.Lists.{reservation_list, jobs_of, job_firsts, row_firsts, first_slots}
use Rattle.reserve.specs.HandOut.{handed_refusal}
use Rattle.reserve.specs.Demand.{InCycle, Assigned, listed}
use Rattle.reserve.proofs.Tables.{AllGood}
use Rattle.reserve.proofs.FirstSlots.{job_count, byte_takes}
use Rattle.reserve.proofs.Verdict.{table_rows, table_accepted}
use Rattle.reserve.proofs.HandedOut.{out_none}
use Rattle.reserve.proofs.Demand2.{list_reserves}

module _ (t : Table) (d : table_refusal t ≡ None) where
  abbrev rs : List Row
  rs = used t

  -- how many slots from s on row i reserves in the cycle
  abbrev mine : ℕ → ℕ → ℕ
  mine i s = within (takes (ends rs) (whole rs) i) s (cycle_of rs)

  -- how many slots of the cycle the rows above row i leave free
  abbrev free : ℕ → ℕ
  free i = between (held (ends rs) (whole rs) i) 0 (cycle_of rs)

  good : AllGood rs
  good = (table_accepted t d).good

  -- each job reserves a slot at least: a isn't 0
  job_some : (i j : ℕ) → i < length rs → InCycle rs i j → 0 < within (takes (ends rs) (whole rs) i) (opens (row_at rs i) j) (closes (row_at rs i) j)
  unfolding Assigned
  job_some i j l c =
      omega
      (arith, (good i l).alternate, (list_reserves t (table_rows t d) d i j l c).exactly, within_same (listed (reservation_list rs) i) (takes (ends rs) (whole rs) i) (opens (row_at rs i) j) (closes (row_at rs i) j) (λ s a b. byte_takes rs i s l (omega (arith, c.1))))

  -- the last m jobs of row i, from job j on, lie one after the other
  jobs_some : (i m j : ℕ) → i < length rs → 1 ≤ j → j + m ≡ suc (jobs_of rs i) → m ≤ mine i (opens (row_at rs i) j)
  unfolding jobs_of
  jobs_some i zero j l p e = omega arith
  jobs_some i (suc m) j l p e =
      let r = row_at rs i in
      let c : closes r j ≤ cycle_of rs = closes_count r (good i l) (cycle_of rs) j (cycle_multiple rs i l) (omega arith) in
      let o : opens r j < closes r j = opens_first r (good i l) j p in
      let more : m ≤ mine i (opens r (suc j)) = jobs_some i m (suc j) l (omega arith) (omega arith) in
      omega
      (arith, within_join (takes (ends rs) (whole rs) i) (opens r j) (closes r j) (cycle_of rs) (omega arith) c, job_some i j l (p, c), within_later (takes (ends rs) (whole rs) i) (closes r j) (opens r (suc j)) (cycle_of rs) (closes_next r (good i l) j))

  row_some : (i : ℕ) → i < length rs → jobs_of rs i ≤ mine i 0
  row_some i l =
      omega
      (arith, jobs_some i (jobs_of rs i) 1 l (omega arith) (omega arith), within_later (takes (ends rs) (whole rs) i) 0 (opens (row_at rs i) 1) (cycle_of rs) (omega arith))

  -- the jobs of the last n rows, from row i on, are no more than the slots that the rows above leave free
  rows_fit : (n i : ℕ) → i + n ≡ length rs → length (row_firsts rs i n) ≤ free i
  unfolding row_firsts
  rows_fit zero i e = omega arith
  rows_fit (suc n) i e =
      omega
      (arith, length-append (job_firsts rs i 1 (jobs_of rs i)) (row_firsts rs (suc i) n), job_count rs i 1 (jobs_of rs i), row_some i (omega arith), rows_fit n (suc i) (omega arith), free_parted (ends rs) (whole rs) i 0 (cycle_of rs))

pub jobs_fit_lem : (t : Table) → table_refusal t ≡ None → length (first_slots (used t)) ≤ cycle_of (used t)
unfolding first_slots
jobs_fit_lem t d =
    omega
    (arith, rows_fit t d (length (used t)) 0 (omega arith), within_all (λ s. not (held (ends (used t)) (whole (used t)) 0 s)) 0 (cycle_of (used t)))

-- so 4,096 places are room for the first slots of any table
pub firsts_fit : (t : Table) (old : List ℕ) → table_refusal t ≡ None → 4096 ≤ length old → handed_refusal t (first_slots (used t)) old ≡ None
firsts_fit t old d l = out_none t (first_slots (used t)) old d (omega (arith, jobs_fit_lem t d, (table_accepted t d).cycle))
