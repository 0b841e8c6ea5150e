-- The answer of a table's check, from what the code has found on each way out.
-- Assumes nothing.
use Rattle.std.specs.Prelude.{Option, Some, None, Ok, Err}
use mathlib.Core.Path.{◌≡◌, sym, ap, ◌∙◌}
use mathlib.Core.List.{List}
use Prim.Native.Nat.{ℕ}
use native.Mathlib.Omega.{arith}
use native.Mathlib.Nat.{pos_of_ne-zero}
use borrow.Author.Tests.{lt-ltb, le-ltb}
use lib.Dec.{ltb}
use Rattle.refusal.specs.declared.Refusal.{Refusal}
use Rattle.refusal.specs.declared.Refusal.TheVariants.{Tight}
use Rattle.refusal.specs.Order.{given, or_else}
use Rattle.refusal.proofs.Order.{passes, none_first, answer_ok, answer_err, ok_none, ok_figure, err_some}
use Rattle.table.specs.declared.Table.{Table}
use Rattle.table.specs.Rows.{used, cycle_of}
use Rattle.table.specs.Check.{rows_refusal, rows_check}
use Rattle.table.proofs.Check.{Accepted, accepted_rows, past_ignored}
use Rattle.reserve.specs.Check.{tight_of, table_refusal, table_check}
use Rattle.reserve.specs.HandOut.{handed_refusal, handed, handed_over}
use Rattle.reserve.specs.Turns.{Ready}

-- where 1 to 6 accept, the rule decides
pub after_rows : (t : Table) → rows_refusal t ≡ None → given (ltb 0 (tight_of (used t))) (Tight (tight_of (used t))) ≡ table_refusal t
unfolding table_refusal
after_rows t e = passes (rows_refusal t) (given (ltb 0 (tight_of (used t))) (Tight (tight_of (used t)))) e

-- ---- the ways out of the check, after that of the rows
module _ (t : Table) where
  pub check_refused : (f : Refusal) → rows_check t ≡ Err f → Err f ≡ table_check t
  unfolding rows_check table_check table_refusal or_else
  check_refused f e =
      answer_err (table_refusal t) (cycle_of (used t)) f
      (ap (λ (g : Option Refusal). or_else g (given (ltb 0 (tight_of (used t))) (Tight (tight_of (used t))))) (err_some (rows_refusal t) (cycle_of (used t)) f e))

  module _ (cycle : ℕ) (e : rows_check t ≡ Ok cycle) where
    rows_none : rows_refusal t ≡ None
    unfolding rows_check
    rows_none = ok_none (rows_refusal t) (cycle_of (used t)) cycle e

    pub rows_ready : Ready t cycle
    unfolding rows_check
    rows_ready = record { rows = rows_none; is_cycle = sym (ok_figure (rows_refusal t) (cycle_of (used t)) cycle e) }

    module _ (k : ℕ) (h : k ≡ tight_of (used t)) where
      last : table_refusal t ≡ given (ltb 0 k) (Tight k)
      last = rw h (sym (after_rows t rows_none))

      pub check_none : k ≡ 0 → Ok cycle ≡ table_check t
      unfolding table_check
      check_none z =
          ap Ok rows_ready.is_cycle ∙ answer_ok (table_refusal t) (cycle_of (used t)) (last ∙ rw (le-ltb 0 k (omega arith)))

      pub check_tight : (k ≡ 0 → ⊥) → Err (Tight k) ≡ table_check t
      unfolding table_check
      check_tight z = answer_err (table_refusal t) (cycle_of (used t)) (Tight k) (last ∙ rw (lt-ltb 0 k (pos_of_ne-zero z)))

-- ---- a table that the check accepts
module _ (t : Table) (z : table_refusal t ≡ None) where
  pub table_rows : rows_refusal t ≡ None
  unfolding table_refusal
  table_rows = none_first _ _ z

  pub table_accepted : Accepted t
  table_accepted = accepted_rows t table_rows

module _ (t : Table) where
  pub refused_table : (f : Refusal) → table_check t ≡ Err f → table_refusal t ≡ Some f
  unfolding table_check
  refused_table f = err_some (table_refusal t) (cycle_of (used t)) f

  module _ (cycle : ℕ) (e : table_check t ≡ Ok cycle) where
    pub checked_none : table_refusal t ≡ None
    unfolding table_check
    checked_none = ok_none (table_refusal t) (cycle_of (used t)) cycle e

    pub table_ready : Ready t cycle
    unfolding table_check
    table_ready =
        record { rows = table_rows t checked_none; is_cycle = sym (ok_figure (table_refusal t) (cycle_of (used t)) cycle e) }

-- ---- places past the rows are ignored, whatever they hold
module _ (t t' : Table) (n : t.n ≡ t'.n) (u : used t ≡ used t') where
  pub refusal_past : table_refusal t ≡ table_refusal t'
  unfolding table_refusal
  refusal_past = rw (past_ignored t t' n u, u)

  pub check_past : table_check t ≡ table_check t'
  unfolding table_check
  check_past = rw (refusal_past, u)

  same_handed : (new old : List ℕ) → handed_refusal t new old ≡ handed_refusal t' new old
  unfolding handed_refusal
  same_handed new old = rw refusal_past

  pub handed_past : (new old : List ℕ) → (handed t new old ≡ handed t' new old) × (handed_over t new old ≡ handed_over t' new old)
  unfolding handed handed_over
  handed_past new old = (rw (same_handed new old), rw (same_handed new old))
