-- The answers of the public functions, from what the code has found on each way out.
-- Assumes nothing.
use Rattle.std.specs.Prelude.{Option, Some, None, Ok, Err}
use mathlib.Core.Path.{◌≡◌, refl, sym, ap, ◌∙◌, subst}
use mathlib.Core.Logic.{◌⊎◌, inl, inr}
use mathlib.Core.Bool.{Bool, true, false, ◌||◌}
use mathlib.Core.List.{List}
use Prim.Native.Nat.{ℕ, ◌≤◌, ◌<◌}
use native.Mathlib.Omega.{arith}
use borrow.Author.Tests.{ltb-false, lt-ltb, le-ltb}
use lib.Dec.{ltb}
use lib.ListN.{length, replicate}
use Rattle.refusal.specs.declared.Refusal.{Refusal}
use Rattle.refusal.specs.declared.Refusal.TheVariants.{Room}
use Rattle.refusal.specs.Order.{accepted, given, or_else, beside}
use Rattle.refusal.specs.Lent.{overlaid}
use Rattle.refusal.proofs.Lent.{sets_laid}
use Rattle.refusal.proofs.Order.{passes, answer_ok, answer_err}
use Rattle.table.specs.declared.Table.{Table}
use Rattle.table.specs.Rows.{used, cycle_of}
use Rattle.table.proofs.Check.{used_count}
use Rattle.rule.proofs.Tests.{or_left, or_right, or_none, or_first, or_second}
use Rattle.reserve.specs.Check.{table_check}
use Rattle.reserve.proofs.Verdict.{refused_table, checked_none}
use Rattle.slots.specs.declared.Job.{Job}
use Rattle.slots.specs.declared.Record.{Record}
use Rattle.slots.specs.declared.Started.{Started}
use Rattle.slots.specs.declared.Stepped.{Stepped}
use Rattle.slots.specs.declared.Ran.{Ran}
use Rattle.slots.specs.declared.Awaiting.{Awaiting}
use Rattle.slots.specs.Records.{no_job, fresh_jobs, fresh_of, fresh_record, started_for}
use Rattle.slots.specs.Sound.{record_refusal}
use Rattle.slots.specs.OneSlot.{byte_of, what, lowest_waiting}
use Rattle.slots.specs.WaitingSet.{waiting_set, waiting_count, awaiting_of}
use Rattle.slots.specs.Reports.{report_refusal, Outcome, stopped, run_of}
use Rattle.slots.specs.Answers.{asked_of, slot_under, stepped_by, entry_refusal, outcome_of, ran_by, log_after, reservations_of, buffer_after}
use Rattle.slots.specs.Buffer.{Kept}
use Rattle.slots.specs.Turns.{started_with, members_of, Steady, RunLeaves}
use Rattle.slots.proofs.Settled.{stands_few}
use Rattle.slots.proofs.SoundRecord.{sound_none}
use Rattle.slots.proofs.RunFacts.{run_short}
use Rattle.slots.proofs.KeptBuffer.{kept_is}

-- ---- the fresh record
module _ (t : Table) where
  pub fresh_none : (cycle : ℕ) → table_check t ≡ Ok cycle → (js : List Job) → js ≡ fresh_jobs (used t) → (r : Started) → r ≡ started_with None js → r ≡ started_for t
  unfolding started_for fresh_record fresh_of
  fresh_none cycle e js h r g = g ∙ rw (checked_none t cycle e, h) refl

  pub fresh_refused : (f : Refusal) → table_check t ≡ Err f → (js : List Job) → js ≡ replicate 16 no_job → (r : Started) → r ≡ started_with (Some f) js → r ≡ started_for t
  unfolding started_for fresh_record fresh_of fresh_jobs
  fresh_refused f e js h r g = g ∙ rw (refused_table t f e, h) refl

-- ---- what becomes of a list of reports, with a lent log that held `old` and a lent buffer that held `kept`
-- one of the two is shorter than its use
abbrev pub roomless : Table → (reps old kept : List ℕ) → Bool
roomless t reps old kept = ltb (length old) (length reps) || ltb (length kept) (cycle_of (used t))

pub lacks_room : (t : Table) (reps old kept : List ℕ) → (length old < length reps) ⊎ (length kept < cycle_of (used t)) → roomless t reps old kept ≡ true
lacks_room t reps old kept (inl l) = or_left (ltb (length old) (length reps)) (ltb (length kept) (cycle_of (used t))) (lt-ltb (length old) (length reps) l)
lacks_room t reps old kept (inr l) = or_right (ltb (length old) (length reps)) (ltb (length kept) (cycle_of (used t))) (lt-ltb (length kept) (cycle_of (used t)) l)

pub has_room : (t : Table) (reps old kept : List ℕ) → length reps ≤ length old → cycle_of (used t) ≤ length kept → roomless t reps old kept ≡ false
has_room t reps old kept l u =
    or_none (ltb (length old) (length reps)) (ltb (length kept) (cycle_of (used t))) (le-ltb (length old) (length reps) l) (le-ltb (length kept) (cycle_of (used t)) u)

module _ (t : Table) (q : Record) (reps old kept : List ℕ) where
  -- stopped before the first slot
  pub outcome_stopped : (f : Option Refusal) → entry_refusal t q reps old kept ≡ f → accepted f ≡ false → outcome_of t q reps old kept ≡ stopped f q
  unfolding outcome_of
  outcome_stopped f h n = rw h (rw n refl)

  -- none of 1 to 7, 9
  module _ (z : record_refusal t q ≡ None) where
    entry : entry_refusal t q reps old kept ≡ given (roomless t reps old kept) Room
    unfolding entry_refusal
    entry = sym (passes (record_refusal t q) (given (roomless t reps old kept) Room) z)

    pub entry_room : roomless t reps old kept ≡ true → entry_refusal t q reps old kept ≡ (Some Room)
    entry_room l = entry ∙ rw l refl

    pub entry_none : roomless t reps old kept ≡ false → entry_refusal t q reps old kept ≡ None
    entry_none l = entry ∙ rw l refl

    -- nor 8: it is run
    pub outcome_run : roomless t reps old kept ≡ false → outcome_of t q reps old kept ≡ run_of (used t) q reps
    unfolding outcome_of
    outcome_run l = let h : entry_refusal t q reps old kept ≡ None = entry_none l in rw h refl

-- what the code hands back is what the three definitions give
record Gives (t : Table) (q : Record) (reps old kept : List ℕ) (r : Ran) (log buffer : List ℕ) : Type 0 where
  answer : r ≡ ran_by t q reps old kept
  bytes : log ≡ log_after t q reps old kept
  left : buffer ≡ buffer_after t q reps old kept

-- a refusal writes nothing
unwritten : (f : Option Refusal) (new old : List ℕ) → accepted f ≡ false → old ≡ overlaid f new old
unfolding overlaid
unwritten f new old n = rw n refl

-- stopped before the first slot: nothing is written
stopped_all : (t : Table) (q : Record) (reps old kept : List ℕ) (f : Option Refusal) → entry_refusal t q reps old kept ≡ f → accepted f ≡ false
    → Gives t q reps old kept (record { refusal = f; slots = 0; next = q }) old kept
unfolding ran_by log_after buffer_after
stopped_all t q reps old kept f h n =
    let o : outcome_of t q reps old kept ≡ stopped f q = outcome_stopped t q reps old kept f h n in
    record {
      answer = rw o refl;
      bytes = rw o refl;
      left = unwritten (entry_refusal t q reps old kept) (reservations_of (used t) (outcome_of t q reps old kept).next) kept (ap accepted h ∙ n);
    }

-- ---- the answers at a record
module _ (t : Table) (q : Record) where
  -- a refusal before the slot
  module _ (f : Refusal) (e : record_refusal t q ≡ Some f) where
    pub asked_refused : Err f ≡ asked_of t q
    unfolding asked_of
    asked_refused = answer_err (record_refusal t q) (byte_of (what (used t) q)) f e

    pub awaiting_refused : Err f ≡ awaiting_of t q
    unfolding awaiting_of
    awaiting_refused = answer_err (record_refusal t q) _ f e

    pub stepped_refused : (report : ℕ) → ◌≡◌ {A = Stepped} (record { refusal = Some f; next = q; ran = 0 }) (stepped_by t q report)
    unfolding stepped_by slot_under or_else beside
    stepped_refused report = rw e refl

    -- ---- a list of reports that is refused at the record
    module _ (reps old kept : List ℕ) where
      refused_all : Gives t q reps old kept (record { refusal = Some f; slots = 0; next = q }) old kept
      unfolding entry_refusal or_else
      refused_all =
          stopped_all t q reps old kept (Some f)
          (ap (λ (g : Option Refusal). or_else g (given (roomless t reps old kept) Room)) e) refl

      pub ran_refused : ◌≡◌ {A = Ran} (record { refusal = Some f; slots = 0; next = q }) (ran_by t q reps old kept)
      ran_refused = refused_all.answer

      pub log_refused : old ≡ log_after t q reps old kept
      log_refused = refused_all.bytes

      pub buffer_refused : kept ≡ buffer_after t q reps old kept
      buffer_refused = refused_all.left

-- none
module _ {t : Table} {cycle : ℕ} {q : Record} (st : Steady t cycle q) where
  none : record_refusal t q ≡ None
  none = sound_none t q st.table st.sound

  pub asked_none : (ran : ℕ) → ran ≡ byte_of (what (used t) q) → Ok ran ≡ asked_of t q
  unfolding asked_of
  asked_none ran h = ap Ok h ∙ answer_ok (record_refusal t q) (byte_of (what (used t) q)) none

  pub awaiting_none : length t.rows ≡ 16 → (m : Awaiting) → m ≡ members_of q.jobs t.n → Ok m ≡ awaiting_of t q
  unfolding awaiting_of waiting_set lowest_waiting waiting_count members_of
  awaiting_none f m g = let n : length (used t) ≡ t.n = used_count t f (stands_few st) in rw (none, n, g) refl

  pub stepped_none : (report : ℕ) (r : Stepped) → r ≡ slot_under (report_refusal (what (used t) q) report) (used t) q report → r ≡ stepped_by t q report
  unfolding stepped_by
  stepped_none report r h =
      h ∙ ap (λ (f : Option Refusal). slot_under f (used t) q report) (passes (record_refusal t q) (report_refusal (what (used t) q) report) none)

-- ---- a list of reports from a sound record, with a lent log that held `old` and a lent buffer that held `kept`
module _ {t : Table} {cycle : ℕ} {q : Record} (st : Steady t cycle q) (reps old kept : List ℕ) (lacking : Bool)
    (asked : lacking ≡ (ltb (length old) (length reps) || ltb (length kept) cycle)) where
  unrefused : record_refusal t q ≡ None
  unrefused = sound_none t q st.table st.sound

  is_roomless : lacking ≡ roomless t reps old kept
  is_roomless = asked ∙ ap (λ (c : ℕ). ltb (length old) (length reps) || ltb (length kept) c) st.is_cycle

  module _ (l : lacking ≡ true) where
    room_all : Gives t q reps old kept (record { refusal = Some Room; slots = 0; next = q }) old kept
    room_all = stopped_all t q reps old kept (Some Room) (entry_room t q reps old kept unrefused (sym is_roomless ∙ l)) refl

    pub ran_room : ◌≡◌ {A = Ran} (record { refusal = Some Room; slots = 0; next = q }) (ran_by t q reps old kept)
    ran_room = room_all.answer

    pub log_room : old ≡ log_after t q reps old kept
    log_room = room_all.bytes

    pub buffer_room : kept ≡ buffer_after t q reps old kept
    buffer_room = room_all.left

  module _ (l : lacking ≡ false) where
    roomy : roomless t reps old kept ≡ false
    roomy = sym is_roomless ∙ l

    log_long : length reps ≤ length old
    log_long = ltb-false (length old) (length reps) (or_first (ltb (length old) (length reps)) (ltb (length kept) (cycle_of (used t))) roomy)

    pub buffer_long : cycle ≤ length kept
    buffer_long =
        omega (
          arith,
          ltb-false (length kept) (cycle_of (used t)) (or_second (ltb (length old) (length reps)) (ltb (length kept) (cycle_of (used t))) roomy),
          st.is_cycle,
        )

    module _ (r : Ran) (log : List ℕ) (g : RunLeaves (run_of (used t) q reps) old r.refusal r.slots r.next log) where
      abbrev o : Outcome
      o = run_of (used t) q reps

      is_run : outcome_of t q reps old kept ≡ o
      is_run = outcome_run t q reps old kept unrefused roomy

      pub ran_done : r ≡ ran_by t q reps old kept
      unfolding ran_by
      ran_done = rw is_run (let n = g.count in rw (g.stop, g.after, n) refl)

      pub log_done : log ≡ log_after t q reps old kept
      unfolding log_after
      log_done = rw is_run (g.written ∙ sets_laid o.log old (omega (arith, run_short (used t) q reps, log_long)))

      pub buffer_done : (buffer : List ℕ) → Kept (used t) cycle r.next kept buffer → buffer ≡ buffer_after t q reps old kept
      unfolding buffer_after overlaid
      buffer_done buffer k =
          rw (entry_none t q reps old kept unrefused roomy, is_run)
          (kept_is (subst (λ (p : Record). Kept (used t) cycle p kept buffer) g.after k) st.is_cycle buffer_long)
