-- The answer of `from_clock`, on each way out of the code, and what it says.
-- Assumes nothing.
use mathlib.Core.Path.{◌≡◌, sym, ap}
use mathlib.Core.List.{List}
use Prim.Native.Nat.{ℕ}
use Rattle.std.specs.Prelude.{Ok, Err}
use Rattle.refusal.specs.declared.Refusal.{Refusal}
use Rattle.refusal.proofs.Order.{answer_ok, answer_err, ok_figure, err_some}
use Rattle.table.specs.declared.Table.{Table}
use Rattle.table.specs.Rows.{used, cycle_of}
use Rattle.table.specs.Check.{rows_refusal, rows_check}
use Rattle.reserve.specs.declared.Standing.{Standing}
use Rattle.reserve.specs.Standing.{short_from, holder_from, from_clock}
use Rattle.reserve.proofs.Verdict.{rows_ready}

module _ (t : Table) (clock : ℕ) (left : List ℕ) where
  abbrev stands : Standing
  stands = record { cycle = cycle_of (used t); short = short_from (used t) clock left; holder = holder_from (used t) clock left }

  -- ---- the ways out, after the check of the rows
  pub from_refused : (f : Refusal) → rows_check t ≡ Err f → Err f ≡ from_clock t clock left
  unfolding from_clock rows_check
  from_refused f e = answer_err (rows_refusal t) stands f (err_some (rows_refusal t) (cycle_of (used t)) f e)

  pub from_none : (cycle : ℕ) → rows_check t ≡ Ok cycle → (short holder : ℕ) → (holder ≡ holder_from (used t) clock left) × (short ≡ short_from (used t) clock left)
      → Ok (record { cycle = cycle; short = short; holder = holder }) ≡ from_clock t clock left
  unfolding from_clock
  from_none cycle e short holder s =
      let r = rows_ready t cycle e in
      rw (r.is_cycle, s.0, s.1) (answer_ok (rows_refusal t) stands r.rows)

  -- ---- what the answer says
  module _ (s : Standing) (e : from_clock t clock left ≡ Ok s) where
    pub from_cycle : s.cycle ≡ cycle_of (used t)
    unfolding from_clock
    from_cycle = ap (λ (x : Standing). x.cycle) (sym (ok_figure (rows_refusal t) stands s e))

    pub from_short : s.short ≡ short_from (used t) clock left
    unfolding from_clock
    from_short = ap (λ (x : Standing). x.short) (sym (ok_figure (rows_refusal t) stands s e))

    pub from_holder : s.holder ≡ holder_from (used t) clock left
    unfolding from_clock
    from_holder = ap (λ (x : Standing). x.holder) (sym (ok_figure (rows_refusal t) stands s e))
