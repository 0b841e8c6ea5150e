-- What the library's answers say of a table that was read and accepted: it is ready to be printed.
-- Assumes nothing.
use mathlib.Core.Path.{◌≡◌, refl, sym, ap, ◌∙◌}
use mathlib.Core.List.{List}
use Prim.Native.Nat.{ℕ}
use native.Mathlib.Omega.{arith}
use lib.ListN.{length, take, drop}
use lib.Seq.{take_at}
use Rattle.std.specs.Prelude.{None, Ok}
use Rattle.refusal.proofs.Order.{answer_ok, ok_figure}
use Rattle.table.specs.declared.Table.{Table}
use Rattle.table.specs.Rows.{used, cycle_of}
use Rattle.reserve.specs.Check.{table_refusal, table_check}
use Rattle.reserve.specs.Lists.{first_slots}
use Rattle.reserve.specs.HandOut.{handed_refusal, handed, handed_over}
use Rattle.reserve.specs.Turns.{Ready}
use Rattle.reserve.proofs.Verdict.{table_ready}
use Rattle.reserve.proofs.HandedOut.{out_used, out_places}
use Rattle.reserve.proofs.JobsFit.{firsts_fit}
use Rattle.plan.specs.Lines.{plan_lines, Begins}
use Rattle.plan.proofs.PrintedLines.{lines_count}

module _ (t : Table) (a : table_refusal t ≡ None) where
  pub is_checked : table_check t ≡ Ok (cycle_of (used t))
  unfolding table_check
  is_checked = sym (answer_ok (table_refusal t) (cycle_of (used t)) a)

  pub ready : (cycle : ℕ) → table_check t ≡ Ok cycle → Ready t cycle
  ready cycle e = table_ready t cycle e

  -- 4,096 places are room enough
  module _ (old : List ℕ) (l : length old ≡ 4096) where
    fits : handed_refusal t (first_slots (used t)) old ≡ None
    fits = firsts_fit t old a (omega arith)

    pub begins : (new : List ℕ) → new ≡ handed_over t (first_slots (used t)) old → Begins (first_slots (used t)) new
    begins new e =
        let firsts = first_slots (used t) in
        ap (λ (x : List ℕ). take (length firsts) x) (e ∙ out_places t firsts old fits) ∙ take_at firsts (drop (length firsts) old) (length firsts) refl

    pub is_handed : handed t (first_slots (used t)) old ≡ Ok (length (first_slots (used t)))
    is_handed = out_used t (first_slots (used t)) old fits

    pub counted : (jobs : ℕ) → handed t (first_slots (used t)) old ≡ Ok jobs → jobs ≡ length (plan_lines (used t))
    unfolding handed
    counted jobs e = sym (ok_figure (handed_refusal t (first_slots (used t)) old) (length (first_slots (used t))) jobs e) ∙ lines_count (used t)
