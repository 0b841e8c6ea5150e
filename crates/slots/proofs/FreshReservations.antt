-- A fresh record reserves what the table does: its holders are the reservation list, and its jobs' first slots are the table's.
-- Assumes nothing.
use mathlib.Core.Path.{◌≡◌}
use mathlib.Core.List.{List}
use Prim.Native.Nat.{ℕ, ◌<◌}
use lib.ListN.{length}
use Rattle.table.specs.declared.Row.{Row}
use Rattle.table.specs.Rows.{row_at, cycle_of}
use Rattle.table.specs.Windows.{opens}
use Rattle.rule.specs.Rule.{first}
use Rattle.rule.specs.Sweep.{holders}
use Rattle.reserve.specs.Tables.{ends, whole}
use Rattle.reserve.specs.Lists.{reservation_list}
use Rattle.reserve.specs.Turns.{Unspent}
use Rattle.reserve.proofs.FreshClaims.{fresh_holders, fresh_first}
use Rattle.slots.specs.Records.{fresh_jobs, fresh_of}
use Rattle.slots.specs.Sound.{lefts, claims_of}
use Rattle.slots.proofs.Entries.{fresh_at}
use Rattle.slots.proofs.SoundRecord.{Usable}
use Rattle.slots.proofs.RecordClaims.{new_unspent}

module _ (rs : List Row) (ok : Usable rs) where
  unspent : Unspent rs (lefts (fresh_jobs rs))
  unspent = new_unspent rs ok.good (fresh_jobs rs) (fresh_at rs)

  pub list_fresh : holders (ends rs) (claims_of rs (fresh_of rs)) (length rs) 0 (cycle_of rs) ≡ reservation_list rs
  unfolding reservation_list claims_of fresh_of
  list_fresh = fresh_holders rs ok.good (lefts (fresh_jobs rs)) unspent (cycle_of rs) 0

  -- of each job of the cycle, by the slot at which its window opens
  pub first_fresh : (i j : ℕ) → i < length rs
      → first (ends rs) (claims_of rs (fresh_of rs)) i (opens (row_at rs i) j) ≡ first (ends rs) (whole rs) i (opens (row_at rs i) j)
  unfolding claims_of fresh_of
  first_fresh i j row = fresh_first rs ok.good (lefts (fresh_jobs rs)) unspent i (opens (row_at rs i) j) row
