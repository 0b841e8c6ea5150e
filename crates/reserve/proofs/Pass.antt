-- One slot's turn over the rows of a table, as the code meets it.
-- Assumes nothing.
use mathlib.Core.Path.{◌≡◌, refl, sym, ap, ◌∙◌}
use mathlib.Core.Bool.{Bool, cond, ◌&&◌, ◌||◌}
use mathlib.Core.List.{List}
use Prim.Native.Nat.{ℕ, suc, ◌+◌, ◌-◌, ◌≤◌, ◌<◌}
use native.Mathlib.Omega.{arith}
use lib.Dec.{ltb, eqb}
use lib.ListN.{get_or, set, length}
use lib.Seq.{get_or-set_other}
use Rattle.table.specs.declared.Row.{Row}
use Rattle.table.specs.declared.Table.{Table}
use Rattle.table.specs.Rows.{used, row_at}
use Rattle.table.specs.Windows.{window_end, starts}
use Rattle.rule.specs.Slots.{or_row}
use Rattle.rule.specs.Rule.{claimed}
use Rattle.reserve.specs.Tables.{ends, whole, claims}
use Rattle.reserve.specs.Turns.{Ready, claim_at, Coming, Turned}
use Rattle.reserve.proofs.Tables.{windows_of, claims_left, begins_is}
use Rattle.reserve.proofs.Turn.{turn_start, turn_step}
use Rattle.reserve.proofs.Ready.{good}

-- the first i rows have had their turn, and the rests of the others are as they came
pub record Passing (rs : List Row) (clock : ℕ) (left : List ℕ) (s : ℕ) (old : List ℕ) (i : ℕ) (xs : List ℕ) (row low : ℕ) : Type 0 where
  pub turned : Turned (ends rs) (claims rs clock left) clock i s xs row low
  pub kept : (j : ℕ) → i ≤ j → get_or xs j 0 ≡ get_or old j 0

pub pass_start : (rs : List Row) (clock : ℕ) (left : List ℕ) (s : ℕ) (old : List ℕ) → Passing rs clock left s old 0 old 0 0
pass_start rs clock left s old = record { turned = turn_start (ends rs) (claims rs clock left) clock s old; kept = λ j l. refl }

pub pass_step : {t : Table} {cycle clock s i row low : ℕ} {xs : List ℕ} → Ready t cycle → clock ≤ s → i < length (used t) → i < length xs
    → (left old : List ℕ) → Passing (used t) clock left s old i xs row low → Coming (ends (used t)) (claims (used t) clock left) (length (used t)) s old
    → {x y row' low' : ℕ} {b : Bool}
    → x ≡ cond (eqb (window_end (row_at (used t) i) s) (suc s)) (claim_at (row_at (used t) i) clock (get_or left i 0) s) (get_or xs i 0)
    → y ≡ cond (eqb row 0) (x - 1) x
    → row' ≡ or_row row (ltb 0 x) (i + 1)
    → b ≡ ((eqb s clock || starts (row_at (used t) i) s) && ltb 0 y)
    → low' ≡ or_row low b (i + 1)
    → Passing (used t) clock left s old (i + 1) (set xs i y) row' low'
unfolding ends whole claims claimed
pass_step {t} {cycle} {clock} {s} {i} {row} {low} {xs} r m l f left old g coming {x} {y} {row'} {low'} {b} ex ey er eb el =
    let rs = used t in
    record {
      turned =
          turn_step (windows_of rs (good r)) (claims_left rs (good r) clock left) g.turned l f old coming x y row' low' b (rw (g.kept i (omega arith)) at ex) ey er
          (eb ∙ ap (λ (z : Bool). z && ltb 0 y) (sym (begins_is rs (good r) (claims rs clock left) clock i s l m))) el;
      kept = λ j u. get_or-set_other xs i j y 0 (λ q. omega arith) ∙ g.kept j (omega arith);
    }
