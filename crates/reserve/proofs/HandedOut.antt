-- What is handed out into lent memory, and the answer beside it, on each way out of the code.
-- Assumes nothing.
use Rattle.std.specs.Prelude.{Option, Some, None, Ok, Err}
use mathlib.Core.Path.{◌≡◌, sym, ap, ◌∙◌}
use mathlib.Core.List.{List, ◌++◌}
use Prim.Native.Nat.{ℕ, ◌≤◌, ◌<◌}
use native.Mathlib.Omega.{arith}
use borrow.Author.Tests.{lt-ltb, le-ltb}
use lib.Dec.{ltb}
use lib.ListN.{length, drop, get_or, length-append, get_or-append}
use lib.Seq.{sets}
use Rattle.refusal.specs.declared.Refusal.{Refusal}
use Rattle.refusal.specs.declared.Refusal.TheVariants.{Room}
use Rattle.refusal.specs.Order.{given, or_else}
use Rattle.refusal.proofs.Order.{passes, none_first, answer_ok, answer_err}
use Rattle.refusal.proofs.Lent.{overlaid_some, overlaid_none, sets_laid}
use Rattle.table.specs.declared.Table.{Table}
use Rattle.table.specs.Rows.{used, cycle_of}
use Rattle.rule.proofs.HolderList.{length_holders}
use Rattle.reserve.specs.Tables.{ends, whole}
use Rattle.reserve.specs.Check.{table_refusal, table_check}
use Rattle.reserve.specs.Lists.{reservation_list}
use Rattle.reserve.specs.HandOut.{handed_refusal, handed, handed_over}
use Rattle.reserve.specs.Turns.{Ready, Listed}
use Rattle.reserve.proofs.Verdict.{refused_table, checked_none, table_ready}

-- ---- an acceptance: when there is one, and what it says of any list handed out
module _ (t : Table) (new old : List ℕ) where
  pub out_none : table_refusal t ≡ None → length new ≤ length old → handed_refusal t new old ≡ None
  unfolding handed_refusal
  out_none e l = sym (passes (table_refusal t) (given (ltb (length old) (length new)) Room) e) ∙ rw (le-ltb (length old) (length new) l)

  module _ (e : handed_refusal t new old ≡ None) where
    pub out_table : table_refusal t ≡ None
    unfolding handed_refusal
    out_table = none_first _ _ e

    pub out_used : handed t new old ≡ Ok (length new)
    unfolding handed
    out_used = sym (answer_ok (handed_refusal t new old) (length new) e)

    pub out_places : handed_over t new old ≡ new ++ drop (length new) old
    unfolding handed_over
    out_places = sym (overlaid_none (handed_refusal t new old) new old e)

-- ---- the code's ways out, after the check, of any list
module _ (t : Table) (new old : List ℕ) where
  abbrev later : Option Refusal
  later = given (ltb (length old) (length new)) Room

  -- a table that is refused
  module _ (f : Refusal) (e : table_check t ≡ Err f) where
    refused_by : handed_refusal t new old ≡ Some f
    unfolding handed_refusal or_else
    refused_by = ap (λ (g : Option Refusal). or_else g later) (refused_table t f e)

    pub handed_refused : Err f ≡ handed t new old
    unfolding handed
    handed_refused = answer_err (handed_refusal t new old) (length new) f refused_by

    pub kept_refused : old ≡ handed_over t new old
    unfolding handed_over
    kept_refused = overlaid_some (handed_refusal t new old) f new old refused_by

  -- a table that is accepted, with a list of `size` places
  module _ (cycle : ℕ) (e : table_check t ≡ Ok cycle) (size : ℕ) (n : size ≡ length new) where
    last : later ≡ handed_refusal t new old
    unfolding handed_refusal
    last = passes (table_refusal t) later (checked_none t cycle e)

    short_by : length old < size → handed_refusal t new old ≡ Some Room
    short_by l = sym (rw (lt-ltb (length old) (length new) (omega arith)) at last)

    none_by : size ≤ length old → handed_refusal t new old ≡ None
    none_by l = out_none t new old (checked_none t cycle e) (omega arith)

    pub handed_short : length old < size → Err Room ≡ handed t new old
    unfolding handed
    handed_short l = answer_err (handed_refusal t new old) (length new) Room (short_by l)

    pub kept_short : length old < size → old ≡ handed_over t new old
    unfolding handed_over
    kept_short l = overlaid_some (handed_refusal t new old) Room new old (short_by l)

    pub handed_none : size ≤ length old → Ok size ≡ handed t new old
    unfolding handed
    handed_none l = ap Ok n ∙ answer_ok (handed_refusal t new old) (length new) (none_by l)

    pub laid_over : (out : List ℕ) → size ≤ length old → out ≡ new ++ drop size old → out ≡ handed_over t new old
    unfolding handed_over
    laid_over out l h = h ∙ rw n (overlaid_none (handed_refusal t new old) new old (none_by l))

    pub set_over : (out : List ℕ) → size ≤ length old → out ≡ sets old 0 new → out ≡ handed_over t new old
    set_over out l h = laid_over out l (h ∙ sets_laid new old (omega arith) ∙ rw n)

-- ---- the reservation list
list_long : (t : Table) → length (reservation_list (used t)) ≡ cycle_of (used t)
unfolding reservation_list
list_long t = length_holders (ends (used t)) (whole (used t)) (length (used t)) 0 (cycle_of (used t))

pub list_slots : (t : Table) (cycle : ℕ) → table_check t ≡ Ok cycle → cycle ≡ length (reservation_list (used t))
list_slots t cycle e = (table_ready t cycle e).is_cycle ∙ sym (list_long t)

-- bytes that were filled, whatever they held, begin with it
pub filled_listed : {t : Table} {cycle : ℕ} → Ready t cycle → (list old : List ℕ) → cycle ≤ length old → list ≡ reservation_list (used t) ++ drop cycle old → Listed t cycle list
filled_listed {t} {cycle} r list old room h =
    let n : length (reservation_list (used t)) ≡ cycle = list_long t ∙ sym r.is_cycle in
    record {
      room = rw h (simp length-append (omega arith));
      bytes = λ s l. ap (λ (x : List ℕ). get_or x s 0) h ∙ get_or-append (reservation_list (used t)) (drop cycle old) 0 s (omega arith);
    }
