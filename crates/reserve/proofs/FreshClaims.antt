-- Where nothing is done of any job, the claims from slot 0 on are the table's own, and so is all that the rule says.
-- Assumes nothing.
use mathlib.Core.Path.{◌≡◌, sym, ◌∙◌}
use mathlib.Core.List.{List}
use Prim.Native.Nat.{ℕ, ◌≤◌, ◌<◌}
use native.Mathlib.Omega.{arith}
use lib.ListN.{length, get_or}
use Rattle.table.specs.declared.Row.{Row}
use Rattle.table.specs.Rows.{row_at}
use Rattle.table.proofs.Windows.{start_zero, start_wants}
use Rattle.rule.specs.Rule.{claimed, first, tight_row}
use Rattle.rule.specs.Sweep.{holders}
use Rattle.rule.proofs.Claims.{claimed_fresh}
use Rattle.rule.proofs.Alike.{holders_alike, first_alike, tight_alike}
use Rattle.reserve.specs.Tables.{ends, whole, claims}
use Rattle.reserve.specs.Turns.{Unspent}
use Rattle.reserve.proofs.Tables.{AllGood, windows_of, claims_of_lem}

module _ (rs : List Row) (good : AllGood rs) (left : List ℕ) (all : Unspent rs left) where
  left_whole : (i : ℕ) → i < length rs → get_or left i 0 ≡ whole rs i 0
  unfolding whole
  left_whole i l = all i l ∙ sym (start_wants (row_at rs i) (good i l) 0 (start_zero (row_at rs i) (good i l)))

  agree : (i s : ℕ) → i < length rs → 0 ≤ s → claims rs 0 left i s ≡ whole rs i s
  unfolding claims claimed
  agree i s l z = rw (left_whole i l) (claimed_fresh (windows_of rs good) (claims_of_lem rs good) 0 i s l z)

  pub fresh_tight : (L : ℕ) → tight_row (ends rs) (claims rs 0 left) 0 L (length rs) ≡ tight_row (ends rs) (whole rs) 0 L (length rs)
  fresh_tight L = tight_alike (ends rs) (whole rs) (claims rs 0 left) (length rs) 0 agree L

  pub fresh_holders : (m s : ℕ) → holders (ends rs) (claims rs 0 left) (length rs) s m ≡ holders (ends rs) (whole rs) (length rs) s m
  fresh_holders m s = holders_alike (ends rs) (whole rs) (claims rs 0 left) (length rs) 0 agree m s (omega arith)

  pub fresh_first : (i w : ℕ) → i < length rs → first (ends rs) (claims rs 0 left) i w ≡ first (ends rs) (whole rs) i w
  fresh_first i w l = first_alike (ends rs) (whole rs) (claims rs 0 left) (length rs) 0 agree i w l (omega arith)
