-- What private functions say of their work, those of the sweep and the scan and, by `Ready`, a program's: no promise names these.
-- Assumes nothing: these are definitions.
use Rattle.std.specs.Prelude.{None, ◌≡◌, cond, ◌&&◌, List, ℕ, suc, ◌-◌, ◌≤◌, ◌<◌, ltb, eqb, get_or, length}
use Rattle.table.specs.declared.Row.{Row}
use Rattle.table.specs.declared.Table.{Table}
use Rattle.table.specs.Rows.{used, row_at, cycle_of}
use Rattle.table.specs.Windows.{window_end, wants}
use Rattle.table.specs.Check.{rows_refusal}
use Rattle.rule.specs.Slots.{unit, first_row}
use Rattle.rule.specs.Rule.{takes, short, begins, holder}
use Rattle.rule.specs.Sweep.{rem}
use Rattle.reserve.specs.Lists.{reservation_list}

-- a table that 1 to 6 accept, with its cycle
pub record Ready (t : Table) (cycle : ℕ) : Type 0 where
  pub rows : rows_refusal t ≡ None
  pub is_cycle : cycle ≡ cycle_of (used t)

-- nothing is done of any job: all of a is left
abbrev pub Unspent : List Row → List ℕ → Type 0
Unspent rs left = (i : ℕ) → i < length rs → get_or left i 0 ≡ (row_at rs i).alternate

-- what the job of slot s's window claims, of a row with `left` units left of its current job: those in the clock c's own window, and else all of a
abbrev pub claim_at : Row → ℕ → ℕ → ℕ → ℕ
claim_at r c left s = cond (eqb (window_end r s) (window_end r c)) left (wants r s)

-- bytes that begin with the table's reservation list
pub record Listed (t : Table) (cycle : ℕ) (list : List ℕ) : Type 0 where
  pub room : cycle ≤ length list
  pub bytes : (s : ℕ) → s < cycle → get_or list s 0 ≡ get_or (reservation_list (used t)) s 0

-- the lower of two rows, where 0 is none
unfoldable pub lower_of : ℕ → ℕ → ℕ
lower_of a b = cond (eqb a 0) b (cond (eqb b 0) a (cond (ltb a b) a b))

module _ (E K : ℕ → ℕ → ℕ) where
  -- xs has what is left of each row's claim once slot s is passed
  abbrev pub Rests : ℕ → ℕ → List ℕ → Type 0
  Rests n s xs = (i : ℕ) → i < n → get_or xs i 0 ≡ rem E K i s - unit (takes E K i s)

  -- xs is ready for slot s: where a window goes on after s, it has what is left once slot s + 1 is passed
  abbrev pub Coming : ℕ → ℕ → List ℕ → Type 0
  Coming n s xs = (i : ℕ) → i < n → suc s < E i s → get_or xs i 0 ≡ rem E K i (suc s) - unit (takes E K i (suc s))

  -- what the turn at slot s leaves: the rests, the slot's holder, and the lowest row with a job that begins there and is short
  pub record Turned (c n s : ℕ) (xs : List ℕ) (row low : ℕ) : Type 0 where
    pub rests : Rests n s xs
    pub holds : row ≡ holder E K n s
    pub lowest : low ≡ first_row (λ i. begins E K c i s && short E K i s) n
