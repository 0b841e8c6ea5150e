-- Demand 1: 'Every public entry takes every table, record and list of reports there can be, without a caller having checked first. It ends, and refuses by number exactly where
-- document 01 says. A refusal gives back the record of the last accepted slot, or the one handed in where none was, and in a lent log only the bytes of accepted slots are new.'
-- No contract asks anything of a caller, and the check proves that each entry ends. The rest is stated here, through the contracts of the entries as the check reads them from the
-- source: of whatever answers and lent bytes meet them. The reader's and the writer's part stands in `tablefile` proofs/Demand2. docs/PROMISES.md names these theorems.
-- Assumes nothing.
use Rattle.std.specs.Prelude.{Option, Some, None}
use mathlib.Core.Path.{◌≡◌, sym, ap, ◌∙◌, subst}
use mathlib.Core.Logic.{◌⊎◌, ◌↔◌}
use mathlib.Core.List.{List, [], ◌++◌}
use Prim.Native.Nat.{ℕ, ◌≤◌, ◌<◌}
use lib.ListN.{length, get_or, take, drop}
use Rattle.std.specs.Result.{result_err}
use Rattle.refusal.specs.declared.Refusal.{Refusal}
use Rattle.refusal.proofs.Order.{answer_refusal}
use Rattle.refusal.specs.declared.Refusal.TheVariants.{Report, Stray}
use Rattle.table.specs.declared.Table.{Table}
use Rattle.table.specs.Rows.{used, cycle_of}
use Rattle.table.specs.Check.{rows_check}
use Rattle.reserve.specs.Check.{table_check}
use Rattle.reserve.specs.Lists.{reservation_list, first_slots}
use Rattle.reserve.specs.Standing.{from_clock}
use Rattle.reserve.specs.HandOut.{handed}
use Rattle.reserve.specs.Exactly.{RowsGives, TableGives, HandedGives}
use Rattle.reserve.proofs.Exactly.{rows_gives, table_gives, handed_gives}
use Rattle.slots.specs.declared.Record.{Record}
use Rattle.slots.specs.declared.Started.{Started}
use Rattle.slots.specs.declared.Stepped.{Stepped}
use Rattle.slots.specs.declared.Ran.{Ran}
use Rattle.slots.specs.OneSlot.{holder_at, what, byte_of}
use Rattle.slots.specs.WaitingSet.{awaiting_of}
use Rattle.slots.specs.Reports.{rec_after}
use Rattle.slots.specs.Answers.{asked_of, ran_by, log_after, reservations_of, buffer_after}
use Rattle.slots.specs.Exactly.{RecordGives, SlotGives, RunGivesAt, LostGives, LostFreshGives}
use Rattle.slots.proofs.ExactlyWhen as at_once
use Rattle.slots.proofs.ListsWhen as in-lists
use Rattle.slots.proofs.HandedBack.{ByReport}
use Rattle.slots.proofs.HandedBack as back
use Rattle.runs.proofs.Calls.{RowsCall, rows_table, ClockCall, clock_table}
use Rattle.runs.proofs.Calls.{CheckCall, check_table, ListCall, list_table, old_list, FirstsCall, firsts_table, old_firsts, FreshCall, fresh_table}
use Rattle.runs.proofs.Calls.{AskCall, asked_at, asked_table, WaitCall, waits_at, waits_table, StepCall, step_from, step_table, step_report}
use Rattle.runs.proofs.Calls.{RunCall, run_from, run_table, run_reports, old_log, new_log, old_buffer, new_buffer}
use Rattle.runs.proofs.Calls.{LostCall, loss_from, loss_table, loss_reports, LostFreshCall, loss_fresh_table, loss_fresh_reports}

-- a refusal that is the same as another is given exactly when that one is
as_is : {f g : Option Refusal} (Gives : Option Refusal → Type 0) → f ≡ g → ((h : Option Refusal) → (g ≡ h) ↔ Gives h) → (h : Option Refusal) → (f ≡ h) ↔ Gives h
as_is Gives e exactly = rw e exactly

-- ---- a table
-- `check_rows` and `from_clock`: 1 to 6
pub rows_check_gives : (c : RowsCall) (f : Option Refusal) → (result_err c.answer ≡ f) ↔ RowsGives (rows_table c) f
unfolding rows_check
rows_check_gives c = as_is (RowsGives (rows_table c)) (ap result_err c.meets ∙ answer_refusal _ _) (rows_gives (rows_table c))

pub from_clock_gives : (c : ClockCall) (f : Option Refusal) → (result_err c.answer ≡ f) ↔ RowsGives (clock_table c) f
unfolding from_clock
from_clock_gives c = as_is (RowsGives (clock_table c)) (ap result_err c.meets ∙ answer_refusal _ _) (rows_gives (clock_table c))

-- `check`: 1 to 7
pub check_gives : (c : CheckCall) (f : Option Refusal) → (result_err c.answer ≡ f) ↔ TableGives (check_table c) f
unfolding table_check
check_gives c = as_is (TableGives (check_table c)) (ap result_err c.meets ∙ answer_refusal _ _) (table_gives (check_table c))

-- `reservations` and `first_slots`: 1 to 7, then 8
pub reservations_gives : (c : ListCall) (f : Option Refusal) → (result_err c.answer ≡ f) ↔ HandedGives (list_table c) (reservation_list (used (list_table c))) (old_list c) f
unfolding handed
reservations_gives c =
    let new : List ℕ = reservation_list (used (list_table c)) in
    as_is (HandedGives (list_table c) new (old_list c)) (ap result_err c.meets.0 ∙ answer_refusal _ _) (handed_gives (list_table c) new (old_list c))

pub first_slots_gives : (c : FirstsCall) (f : Option Refusal) → (result_err c.answer ≡ f) ↔ HandedGives (firsts_table c) (first_slots (used (firsts_table c))) (old_firsts c) f
unfolding handed
first_slots_gives c =
    let new : List ℕ = first_slots (used (firsts_table c)) in
    as_is (HandedGives (firsts_table c) new (old_firsts c)) (ap result_err c.meets.0 ∙ answer_refusal _ _) (handed_gives (firsts_table c) new (old_firsts c))

-- `fresh`: 1 to 7
pub fresh_gives : (c : FreshCall) (f : Option Refusal) → (c.answer.refusal ≡ f) ↔ TableGives (fresh_table c) f
fresh_gives c = as_is (TableGives (fresh_table c)) (ap (λ (r : Started). r.refusal) c.meets) (at_once.fresh_gives (fresh_table c))

-- ---- a record and a table
-- `what_runs` and `waiting`: 1 to 7, then 9
pub what_runs_gives : (c : AskCall) (f : Option Refusal) → (result_err c.answer ≡ f) ↔ RecordGives (asked_table c) (asked_at c) f
unfolding asked_of
what_runs_gives c = as_is (RecordGives (asked_table c) (asked_at c)) (ap result_err c.meets ∙ answer_refusal _ _) (at_once.record_gives (asked_table c) (asked_at c))

pub waiting_gives : (c : WaitCall) (f : Option Refusal) → (result_err c.answer ≡ f) ↔ RecordGives (waits_table c) (waits_at c) f
unfolding awaiting_of
waiting_gives c = as_is (RecordGives (waits_table c) (waits_at c)) (ap result_err c.meets ∙ answer_refusal _ _) (at_once.record_gives (waits_table c) (waits_at c))

-- `step`: 1 to 7, 9, then 10 before 11
pub step_gives : (c : StepCall) (f : Option Refusal) → (c.answer.refusal ≡ f) ↔ SlotGives (step_table c) (step_from c) (step_report c) f
step_gives c =
    as_is (SlotGives (step_table c) (step_from c) (step_report c)) (ap (λ (r : Stepped). r.refusal) c.meets) (at_once.slot_gives (step_table c) (step_from c) (step_report c))

-- and beside a refusal the record given, and 0
pub step_hands_back : (c : StepCall) → (c.answer.refusal ≡ None → ⊥) → (c.answer.next ≡ step_from c) × (c.answer.ran ≡ 0)
step_hands_back c =
    subst (λ (r : Stepped). (r.refusal ≡ None → ⊥) → (r.next ≡ step_from c) × (r.ran ≡ 0)) (sym c.meets) (back.step_hands_back (step_table c) (step_from c) (step_report c))

-- `lost`: 1 to 7, 9, then, slot by slot, 10 before 11
pub lost_gives : (c : LostCall) (f : Option Refusal) → (result_err c.answer ≡ f) ↔ LostGives (loss_table c) (loss_from c) (loss_reports c) f
lost_gives c =
    as_is (LostGives (loss_table c) (loss_from c) (loss_reports c)) (ap result_err c.meets) (in-lists.lost_gives (loss_table c) (loss_from c) (loss_reports c))

-- `lost_fresh`: 'refused by 1 to 7, 10 and 11'
pub lost_fresh_gives : (c : LostFreshCall) (f : Option Refusal) → (result_err c.answer ≡ f) ↔ LostFreshGives (loss_fresh_table c) (loss_fresh_reports c) f
lost_fresh_gives c = as_is (LostFreshGives (loss_fresh_table c) (loss_fresh_reports c)) (ap result_err c.meets) (in-lists.lost_fresh_gives (loss_fresh_table c) (loss_fresh_reports c))

-- ---- a call of `run`
module _ (c : RunCall) where
  -- the table, the record, the reports, the lent log and the lent buffer before
  abbrev t : Table
  t = run_table c

  abbrev q : Record
  q = run_from c

  abbrev reps : List ℕ
  reps = run_reports c

  abbrev old : List ℕ
  old = old_log c

  abbrev kept : List ℕ
  kept = old_buffer c

  -- what holds of the answer, the log and the buffer that the contract names holds of this call's
  of_call : (P : Ran → List ℕ → List ℕ → Type 0) → P (ran_by t q reps old kept) (log_after t q reps old kept) (buffer_after t q reps old kept) → P c.answer (new_log c) (new_buffer c)
  of_call P h =
      subst (λ (r : Ran). P r (new_log c) (new_buffer c)) (sym c.meets.0)
      (subst (λ (log : List ℕ). P (ran_by t q reps old kept) log (new_buffer c)) (sym c.meets.1.0)
      (subst (P (ran_by t q reps old kept) (log_after t q reps old kept)) (sym c.meets.1.1) h))

  -- 1 to 7, 9, 8, then, slot by slot, 10 before 11; and how many slots were accepted
  pub run_gives : (f : Option Refusal) (n : ℕ) → ((c.answer.refusal ≡ f) × (c.answer.slots ≡ n)) ↔ RunGivesAt (run_table c) (run_from c) (run_reports c) (old_log c) (old_buffer c) f n
  run_gives = of_call (λ r log buffer. (f : Option Refusal) (n : ℕ) → ((r.refusal ≡ f) × (r.slots ≡ n)) ↔ RunGivesAt t q reps old kept f n) (in-lists.run_gives t q reps old kept)

  -- 'the record of the last accepted slot, or the one handed in where none was'
  pub run_hands_back : c.answer.next ≡ rec_after (used (run_table c)) (run_from c) (run_reports c) c.answer.slots
  run_hands_back = of_call (λ r log buffer. r.next ≡ rec_after (used t) q reps r.slots) (back.run_hands_back t q reps old kept)

  -- the log keeps its length, the byte of each accepted slot is what ran in it, and no other byte changes
  pub log_length : length (new_log c) ≡ length (old_log c)
  log_length = of_call (λ r log buffer. length log ≡ length old) (back.log_length t q reps old kept)

  pub log_new : (i : ℕ) → i < c.answer.slots → get_or (new_log c) i 0 ≡ byte_of (what (used (run_table c)) (rec_after (used (run_table c)) (run_from c) (run_reports c) i))
  log_new = of_call (λ r log buffer. (i : ℕ) → i < r.slots → get_or log i 0 ≡ byte_of (what (used t) (rec_after (used t) q reps i))) (back.log_new t q reps old kept)

  pub log_old : (i : ℕ) → c.answer.slots ≤ i → get_or (new_log c) i 0 ≡ get_or (old_log c) i 0
  log_old = of_call (λ r log buffer. (i : ℕ) → r.slots ≤ i → get_or log i 0 ≡ get_or old i 0) (back.log_old t q reps old kept)

  -- 'A refusal other than 10 or 11 leaves the buffer untouched': no slot is accepted, the record is the one handed in, and the log and the buffer are as they were
  pub early_hands_back : (c.answer.refusal ≡ None → ⊥) → (c.answer.refusal ≡ Some Report → ⊥) → (c.answer.refusal ≡ Some Stray → ⊥)
      → (c.answer.slots ≡ 0) × (c.answer.next ≡ run_from c) × (new_log c ≡ old_log c) × (new_buffer c ≡ old_buffer c)
  early_hands_back =
      of_call (λ r log buffer. (r.refusal ≡ None → ⊥) → (r.refusal ≡ Some Report → ⊥) → (r.refusal ≡ Some Stray → ⊥) → (r.slots ≡ 0) × (r.next ≡ q) × (log ≡ old) × (buffer ≡ kept))
      (back.early_hands_back t q reps old kept)

  -- ---- 'while 10 or 11 leaves it built, even at the first slot', and so does a list that is run to its end, the empty one too
  abbrev pub Ended : Type 0
  Ended = (c.answer.refusal ≡ None) ⊎ ByReport c.answer.refusal

  module _ (ended : Ended) where
    entered : back.Entered t q reps old kept
    entered = subst (λ (r : Ran). (r.refusal ≡ None) ⊎ ByReport r.refusal) c.meets.0 ended

    -- 'the buffer's first bytes, one for each slot of the cycle, hold the reservations of the record handed back'; 'later bytes stay'
    pub buffer_built : new_buffer c ≡ reservations_of (used (run_table c)) c.answer.next ++ drop (cycle_of (used (run_table c))) (old_buffer c)
    buffer_built = of_call (λ r log buffer. buffer ≡ reservations_of (used t) r.next ++ drop (cycle_of (used t)) kept) (back.buffer_built t q reps old kept entered)

    pub buffer_length : length (new_buffer c) ≡ length (old_buffer c)
    buffer_length = of_call (λ r log buffer. length buffer ≡ length kept) (back.buffer_length t q reps old kept entered)

    -- 'with 0 for slots behind its clock'
    pub buffer_behind : (s : ℕ) → s < c.answer.next.clock → get_or (new_buffer c) s 0 ≡ 0
    buffer_behind = of_call (λ r log buffer. (s : ℕ) → s < r.next.clock → get_or buffer s 0 ≡ 0) (back.buffer_behind t q reps old kept entered)

    -- and from there on the rule's own holders
    pub buffer_ahead : (s : ℕ) → c.answer.next.clock ≤ s → s < cycle_of (used (run_table c)) → get_or (new_buffer c) s 0 ≡ holder_at (used (run_table c)) c.answer.next s
    buffer_ahead =
        of_call (λ r log buffer. (s : ℕ) → r.next.clock ≤ s → s < cycle_of (used t) → get_or buffer s 0 ≡ holder_at (used t) r.next s) (back.buffer_ahead t q reps old kept entered)

    -- 'later bytes stay'
    pub buffer_later : drop (cycle_of (used (run_table c))) (new_buffer c) ≡ drop (cycle_of (used (run_table c))) (old_buffer c)
    buffer_later = of_call (λ r log buffer. drop (cycle_of (used t)) buffer ≡ drop (cycle_of (used t)) kept) (back.buffer_later t q reps old kept entered)

  -- 'An empty list of reports that meets none of 1 to 9 is accepted and changes neither record nor log.'
  pub empty_changes_nothing : run_reports c ≡ [] → RecordGives (run_table c) (run_from c) None → cycle_of (used (run_table c)) ≤ length (old_buffer c)
      → (c.answer ≡ record { refusal = None; slots = 0; next = run_from c }) × (new_log c ≡ old_log c)
  empty_changes_nothing e g l =
      let r = back.empty_changes_nothing t q old kept ((at_once.record_gives t q None).1 g) l in
      (c.meets.0 ∙ ap (λ (xs : List ℕ). ran_by t q xs old kept) e ∙ r.0, c.meets.1.0 ∙ ap (λ (xs : List ℕ). log_after t q xs old kept) e ∙ r.1)

-- 'whose earlier contents mean nothing': two calls that differ in what their buffers held, and in nothing else, answer the same, write the same log, and leave the same bytes below the cycle
module _ (c d : RunCall) (same-table : run_table d ≡ run_table c) (same-record : run_from d ≡ run_from c) (same-reports : run_reports d ≡ run_reports c) (same_log : old_log d ≡ old_log c)
    (same_length : length (old_buffer d) ≡ length (old_buffer c)) where
  abbrev kept' : List ℕ
  kept' = old_buffer d

  as_c : {A : Type 0} (f : Table → Record → List ℕ → List ℕ → List ℕ → A) → f (run_table d) (run_from d) (run_reports d) (old_log d) kept' ≡ f (run_table c) (run_from c) (run_reports c) (old_log c) kept'
  as_c f =
      ap (λ (x : Table). f x (run_from d) (run_reports d) (old_log d) kept') same-table
      ∙ ap (λ (x : Record). f (run_table c) x (run_reports d) (old_log d) kept') same-record
      ∙ ap (λ (x : List ℕ). f (run_table c) (run_from c) x (old_log d) kept') same-reports
      ∙ ap (λ (x : List ℕ). f (run_table c) (run_from c) (run_reports c) x kept') same_log

  pub contents_mean_nothing : (d.answer ≡ c.answer) × (new_log d ≡ new_log c)
  contents_mean_nothing =
      let r = back.contents_mean_nothing (run_table c) (run_from c) (run_reports c) (old_log c) (old_buffer c) kept' same_length in
      (d.meets.0 ∙ as_c ran_by ∙ r.0 ∙ sym c.meets.0, d.meets.1.0 ∙ as_c log_after ∙ r.1 ∙ sym c.meets.1.0)

  pub buffer_anew : Ended c → take (cycle_of (used (run_table c))) (new_buffer d) ≡ take (cycle_of (used (run_table c))) (new_buffer c)
  buffer_anew e =
      ap (take (cycle_of (used (run_table c)))) (d.meets.1.1 ∙ as_c buffer_after)
      ∙ back.buffer_anew (run_table c) (run_from c) (run_reports c) (old_log c) (old_buffer c) kept' same_length (entered c e)
      ∙ ap (take (cycle_of (used (run_table c)))) (sym c.meets.1.1)
