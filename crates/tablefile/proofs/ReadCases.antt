-- The reader: what each function of it answers, from the facts on the code's way to it.
-- Assumes nothing.
use Rattle.std.specs.Prelude.{Option, None, Ok, Err}
use mathlib.Core.Path.{◌≡◌, sym, ◌∙◌, ap, ap₂}
use mathlib.Core.List.{List, ◌++◌}
use Prim.Native.Nat.{ℕ, ◌+◌, ◌*◌, ◌≤◌, ◌<◌}
use native.Mathlib.Omega.{arith}
use lib.ListN.{length, take, drop, set, length-take}
use lib.Seq.{take_all}
use Rattle.std.proofs.lemmas.List.{take_more_set, drop-replicate}
use native.Mathlib.Numerals.{add-one}
use Rattle.refusal.specs.declared.Refusal.{Refusal}
use Rattle.refusal.specs.Order.{or_else, answer}
use Rattle.refusal.proofs.Order.{passes, answer_ok, answer_err, ok_none, ok_figure, err_some}
use Rattle.table.specs.declared.Row.{Row}
use Rattle.table.specs.declared.Table.{Table}
use Rattle.reserve.specs.Check.{table_refusal, table_check}
use Rattle.reserve.proofs.Verdict.{refused_table, checked_none}
use Rattle.tablefile.specs.Layout.{count_byte, row_from, rows_from, padded, table_from}
use Rattle.tablefile.specs.Answers.{head_refusal, file_refusal, zero_table, read_as}
use Rattle.tablefile.proofs.FileLayout.{rows_more}
use Rattle.tablefile.proofs.HeadCases.{headed}

-- ---- the loop over the places for the rows: those before i are read, and zeros stand past them
pub rows_step : (s : List ℕ) (i : ℕ) (rows : List Row) → take i rows ≡ rows_from s 4 i → i < length rows → (r : Row) → r ≡ row_from s (4 + 6 * i)
    → take (i + 1) (set rows i r) ≡ rows_from s 4 (i + 1)
rows_step s i rows inv l r e = take_more_set rows i r l ∙ rw (inv, e, add-one) (rows_more s 4 i)

pub rows_end : (s : List ℕ) (n i : ℕ) (rows : List Row) → take i rows ≡ rows_from s 4 i → (z : Table) → z ≡ zero_table → n ≤ 16
    → length rows ≡ length (take n z.rows) → i ≡ length (take n z.rows) → rows ++ drop n z.rows ≡ padded n (rows_from s 4 n)
rows_end s n i rows inv z k m l e =
    let sixteen : length z.rows ≡ 16 = rw k in
    let all : i ≡ n = omega (arith, length-take n z.rows) in
    let whole : rows ≡ rows_from s 4 n = sym (take_all i rows (omega arith)) ∙ rw (← all) inv in
    rw (whole, k, drop-replicate)

-- ---- the ways out of a reading, after its head
module _ (s : List ℕ) where
  pub read_refused : (f : Refusal) → answer (head_refusal s) (count_byte s) ≡ Err f → Err f ≡ read_as s
  unfolding read_as file_refusal or_else
  read_refused f e =
      answer_err (file_refusal s) (table_from s) f (ap (λ (g : Option Refusal). or_else g (table_refusal (table_from s))) (err_some (head_refusal s) (count_byte s) f e))

  module _ (n : ℕ) (e : answer (head_refusal s) (count_byte s) ≡ Ok n) where
    accepted_head : head_refusal s ≡ None
    accepted_head = ok_none (head_refusal s) (count_byte s) n e

    count : count_byte s ≡ n
    count = ok_figure (head_refusal s) (count_byte s) n e

    pub read_few : n ≤ 16
    read_few = omega (arith, count, (headed s accepted_head).few)

    -- and after the check of the rows
    module _ (rows : List Row) (h : rows ≡ padded n (rows_from s 4 n)) where
      abbrev table : Table
      table = record { n = n; rows = rows }

      held : table ≡ table_from s
      unfolding table_from
      held = rw (h, sym count)

      judged : table_refusal table ≡ file_refusal s
      unfolding file_refusal
      judged = ap table_refusal held ∙ passes (head_refusal s) (table_refusal (table_from s)) accepted_head

      -- it answers what the check says of the table
      pub read_judged : answer (table_refusal table) table ≡ read_as s
      unfolding read_as
      read_judged = ap₂ answer judged held

      pub rows_refused : (f : Refusal) → table_check table ≡ Err f → Err f ≡ read_as s
      rows_refused f c = answer_err (table_refusal table) table f (refused_table table f c) ∙ read_judged

      pub read_table : (cycle : ℕ) → table_check table ≡ Ok cycle → Ok table ≡ read_as s
      read_table cycle c = answer_ok (table_refusal table) table (checked_none table cycle c) ∙ read_judged
