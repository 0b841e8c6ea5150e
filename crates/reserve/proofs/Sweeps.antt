-- The sweep over the rows of a table, as the code's loops meet it.
-- Assumes nothing.
use mathlib.Core.Path.{◌≡◌, ap, ◌∙◌}
use mathlib.Core.List.{List, ◌++◌}
use Prim.Native.Nat.{ℕ, ◌≤◌}
use native.Mathlib.Omega.{arith}
use lib.ListN.{length, drop}
use Rattle.table.specs.declared.Table.{Table}
use Rattle.table.specs.Rows.{used, cycle_of}
use Rattle.rule.specs.Sweep.{holders}
use Rattle.reserve.specs.Tables.{ends, whole, claims}
use Rattle.reserve.specs.Check.{tight_of}
use Rattle.reserve.specs.Standing.{short_from, holder_from}
use Rattle.reserve.specs.Lists.{reservation_list}
use Rattle.reserve.specs.Turns.{Ready, Unspent}
use Rattle.reserve.proofs.Tables.{ends_last}
use Rattle.reserve.proofs.Ready.{good}
use Rattle.reserve.proofs.Down.{Next, next_start, Found, found_end, Filled, filled_end}
use Rattle.reserve.proofs.FreshClaims.{fresh_tight, fresh_holders}

module _ (t : Table) (cycle clock : ℕ) (left : List ℕ) where
  abbrev pub Sweeping : List ℕ → ℕ → Type 0
  Sweeping xs s = Next (ends (used t)) (claims (used t) clock left) (length (used t)) cycle xs s

  abbrev pub Finding : ℕ → ℕ → ℕ → Type 0
  Finding s row low = Found (ends (used t)) (claims (used t) clock left) (length (used t)) cycle clock s row low

  abbrev pub Filling : List ℕ → List ℕ → ℕ → Type 0
  Filling old out s = Filled (ends (used t)) (claims (used t) clock left) (length (used t)) cycle old out s

module _ {t : Table} {cycle : ℕ} (r : Ready t cycle) where
  pub sweep_start : (clock : ℕ) (left xs : List ℕ) → Sweeping t cycle clock left xs cycle
  sweep_start clock left xs =
      next_start (ends (used t)) (claims (used t) clock left) (length (used t)) cycle (λ i s l e. ends_last (used t) (good r) i s l (e ∙ r.is_cycle)) xs

  pub down_end : {clock s row low : ℕ} {xs : List ℕ} → s ≤ clock → (left : List ℕ) → Sweeping t cycle clock left xs s → Finding t cycle clock left s row low
      → (row ≡ holder_from (used t) clock left) × (low ≡ short_from (used t) clock left)
  down_end {clock} m left w g =
      rw (← r.is_cycle) (found_end (ends (used t)) (claims (used t) clock left) (length (used t)) cycle w.within m g)

  -- ---- where nothing is done of any job
  module _ (left : List ℕ) (all : Unspent (used t) left) where
    pub tight_fresh : {low : ℕ} → low ≡ short_from (used t) 0 left → low ≡ tight_of (used t)
    unfolding tight_of
    tight_fresh e = e ∙ fresh_tight (used t) (good r) left all (cycle_of (used t))

    pub fill_end : (old out : List ℕ) (s : ℕ) → s ≤ 0 → cycle ≤ length old → Filling t cycle 0 left old out s → out ≡ reservation_list (used t) ++ drop cycle old
    unfolding reservation_list
    fill_end old out s z room g =
        let q : s ≡ 0 = omega arith in
        filled_end (ends (used t)) (claims (used t) 0 left) (length (used t)) cycle (rw q at g) room
        ∙ ap (λ (xs : List ℕ). xs ++ drop cycle old)
        (fresh_holders (used t) (good r) left all cycle 0 ∙ ap (holders (ends (used t)) (whole (used t)) (length (used t)) 0) r.is_cycle)
