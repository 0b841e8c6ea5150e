-- Demand 3: 'Take an accepted table, a fresh start and reports of which none is refused. Each job whose deadline has come had either its primary reported done inside its own
-- window, or its full alternate time inside that window. No job gets more primary or alternate units than its row allows, no alternate unit after its primary is done, and no
-- primary unit after its alternate began. Other jobs' failures change none of this.' Stated through the contracts of `fresh` and `Record::run`, and of `Record::step`.
-- Assumes nothing.
use Rattle.std.specs.Prelude.{Option, None}
use mathlib.Core.Path.{◌≡◌, refl, sym, ap, ap₂, ◌∙◌, subst}
use mathlib.Core.Logic.{◌⊎◌, ⊎_elim, inl, inr}
use mathlib.Core.List.{List, []}
use Prim.Native.Nat.{ℕ, zero, suc, ◌≤◌, ◌<◌}
use native.Mathlib.Omega.{arith}
use lib.ListN.{length, get_or, drop, get_or-append}
use Rattle.refusal.specs.declared.Refusal.{Refusal}
use Rattle.refusal.proofs.Order.{beside_none}
use Rattle.table.specs.declared.Row.{Row}
use Rattle.table.specs.declared.Table.{Table}
use Rattle.table.specs.Rows.{used, cycle_of}
use Rattle.rule.proofs.Tests.{side}
use Rattle.rule.proofs.Counting.{within_same}
use Rattle.reserve.specs.Check.{table_refusal}
use Rattle.slots.specs.declared.Record.{Record}
use Rattle.slots.specs.declared.Started.{Started}
use Rattle.slots.specs.declared.Stepped.{Stepped}
use Rattle.slots.specs.Records.{fresh_of, fresh_record, started_for}
use Rattle.slots.specs.Sound.{sound, record_refusal}
use Rattle.slots.specs.OneSlot.{Work, what, byte_of, step_of}
use Rattle.slots.specs.Reports.{Outcome, run_of, rec_after}
use Rattle.slots.specs.History.{work_of, logged, reported, is_primary, is_alternate, primaries, alternates}
use Rattle.slots.specs.Answers.{slot_under, stepped_by}
use Rattle.slots.proofs.SoundRecord.{Usable, table_usable, sound_if, none_table, sound_none}
use Rattle.slots.proofs.StaysSound.{fresh_sound, what_allowed}
use Rattle.slots.proofs.RunFacts.{run_none, run_whole, what_byte}
use Rattle.slots.proofs.RunCourse.{run_course}
use Rattle.runs.specs.Demand3.{Finished, Served, AllServed}
use Rattle.runs.proofs.Courses.{course_served}
use Rattle.runs.proofs.Calls.{FreshCall, fresh_table, StepCall, step_from, step_table, step_report, RunCall, run_from, run_table, run_reports, run_outcome, old_log, new_log, old_buffer}
use Rattle.runs.proofs.RunAnswers.{Enters, Left, Leaves, accepted_enters, run_answers, run_same, no_room}

-- ---- two histories that agree on their first N slots
module _ (N : ℕ) (works works' : ℕ → Work) (reports reports' : ℕ → ℕ)
    (same-work : (t : ℕ) → t < N → works t ≡ works' t) (same-report : (t : ℕ) → t < N → reports t ≡ reports' t) where
  same_primaries : (k s e : ℕ) → e ≤ N → primaries k works s e ≡ primaries k works' s e
  unfolding primaries
  same_primaries k s e l = within_same (λ t. is_primary k (works t)) (λ t. is_primary k (works' t)) s e (λ t a b. ap (is_primary k) (same-work t (omega arith)))

  same_alternates : (k s e : ℕ) → e ≤ N → alternates k works s e ≡ alternates k works' s e
  unfolding alternates
  same_alternates k s e l = within_same (λ t. is_alternate k (works t)) (λ t. is_alternate k (works' t)) s e (λ t a b. ap (is_alternate k) (same-work t (omega arith)))

  served_same : (k p a s e : ℕ) → Served k p a s e N works reports → Served k p a s e N works' reports'
  served_same k p a s e y = record {
    settled = λ l.
        ⊎_elim (λ (f : Finished k works reports s e).
        let b : f.0 < N = omega (arith, f.2) in
        inl (f.0, f.1, f.2, sym (same-work f.0 b) ∙ f.3, sym (same-report f.0 b) ∙ f.4))
        (λ f. inr (sym (same_alternates k s e l) ∙ f)) (y.settled l);
    few_primaries = λ t l u. omega (arith, same_primaries k s t u, y.few_primaries t l u);
    few_alternates = λ t l u. omega (arith, same_alternates k s t u, y.few_alternates t l u);
    after_done = λ t u i b d f w x.
        let z = y.after_done t u i b d f (same-work t (omega arith) ∙ w) (same-report t (omega arith) ∙ x) in
        (λ v. z.0 (same-work u f ∙ v), λ v. z.1 (same-work u f ∙ v));
    after_alternate = λ t u i b d f w v. y.after_alternate t u i b d f (same-work t (omega arith) ∙ w) (same-work u f ∙ v);
  }

  -- what is promised after N slots depends on them alone
  all_same : (rs : List Row) → AllServed rs N works reports → AllServed rs N works' reports'
  unfolding AllServed
  all_same rs y k row j one = served_same k _ _ _ _ (y k row j one)

-- ---- the run of a list of reports from the fresh record, up to its stop where one is refused
module _ (rs : List Row) (ok : Usable rs) where
  run_served : (reps : List ℕ) → AllServed rs (length (run_of rs (fresh_of rs) reps).log) (logged (run_of rs (fresh_of rs) reps).log) (reported reps)
  run_served reps =
      let log : List ℕ = (run_of rs (fresh_of rs) reps).log in
      course_served rs ok (length log) (rec_after rs (fresh_of rs) reps) (logged log) (reported reps) (run_course rs ok.few (fresh_of rs) reps)

  -- of the lent log that the run was written to
  lent_served : (reps old : List ℕ) (f : Option Refusal) (n : ℕ) (next : Record) (new : List ℕ)
      → Left (run_of rs (fresh_of rs) reps) old f n next new → AllServed rs n (logged new) (reported reps)
  lent_served reps old f n next new g =
      let log : List ℕ = (run_of rs (fresh_of rs) reps).log in
      subst (λ (m : ℕ). AllServed rs m (logged new) (reported reps)) (sym g.count)
      (all_same (length log) (logged log) (logged new) (reported reps) (reported reps)
      (λ t l. ap work_of (sym (get_or-append log (drop n old) 0 t l) ∙ ap (λ (s : List ℕ). get_or s t 0) (sym g.written))) (λ t l. refl) rs (run_served reps))

  -- before the first slot
  none_served : (works : ℕ → Work) (reports : ℕ → ℕ) → AllServed rs 0 works reports
  none_served works reports =
      all_same 0 (logged []) works (reported []) reports (λ t l. absurd (omega arith)) (λ t l. absurd (omega arith)) rs
      (subst (λ (o : Outcome). AllServed rs (length o.log) (logged o.log) (reported [])) (run_none rs (fresh_of rs)) (run_served []))

-- ---- a call of `fresh`, and one of `Record::run` on the same table from the record that it gave
module _ (f : FreshCall) (c : RunCall) (same : run_table c ≡ fresh_table f) (from : run_from c ≡ f.answer.start) where
  abbrev t : Table
  t = run_table c

  fresh_refusal : f.answer.refusal ≡ table_refusal t
  unfolding started_for
  fresh_refusal = ap (λ (s : Started). s.refusal) f.meets ∙ ap table_refusal (sym same)

  from_fresh_lem : table_refusal t ≡ None → run_from c ≡ fresh_of (used t)
  unfolding started_for fresh_record
  from_fresh_lem z = from ∙ ap (λ (s : Started). s.start) f.meets ∙ ap fresh_record (sym same) ∙ rw z refl

  -- 'Take an accepted table, a fresh start and reports': of the slots that are accepted, whatever stops the run
  pub demand_3_slots : f.answer.refusal ≡ None → AllServed (used (run_table c)) c.answer.slots (logged (new_log c)) (reported (run_reports c))
  demand_3_slots z =
      let accepted : table_refusal t ≡ None = sym fresh_refusal ∙ z in
      let ok : Usable (used t) = table_usable t accepted in
      let q : run_from c ≡ fresh_of (used t) = from_fresh_lem accepted in
      let admitted : record_refusal t (run_from c) ≡ None
      = sound_none t (run_from c) accepted (ap (sound (used t)) q ∙ sound_if (used t) (fresh_of (used t)) (fresh_sound (used t) ok)) in
      let none : (length (old_log c) < length (run_reports c)) ⊎ (length (old_buffer c) < cycle_of (used t)) → AllServed (used t) c.answer.slots (logged (new_log c)) (reported (run_reports c))
      = λ short. subst (λ (n : ℕ). AllServed (used t) n (logged (new_log c)) (reported (run_reports c))) (sym (no_room c admitted short))
      (none_served (used t) ok (logged (new_log c)) (reported (run_reports c))) in
      ⊎_elim (λ (short : length (old_log c) < length (run_reports c)). none (inl short))
      (λ (room : length (run_reports c) ≤ length (old_log c)).
      ⊎_elim (λ (short : length (old_buffer c) < cycle_of (used t)). none (inr short))
      (λ (buffer : cycle_of (used t) ≤ length (old_buffer c)).
      lent_served (used t) ok (run_reports c) (old_log c) c.answer.refusal c.answer.slots c.answer.next (new_log c)
      (subst (λ (o : Outcome). Leaves c o) (run_same c refl q refl) (run_answers c (record { admitted = admitted; room = room; buffer = buffer }))))
      (side (length (old_buffer c)) (cycle_of (used t)))) (side (length (old_log c)) (length (run_reports c)))

  -- 'of which none is refused': of each report's slot. That the table is accepted is in it
  pub demand_3_run : c.answer.refusal ≡ None → AllServed (used (run_table c)) (length (run_reports c)) (logged (new_log c)) (reported (run_reports c))
  demand_3_run z =
      let g : Enters c = accepted_enters c z in
      let r : Leaves c (run_outcome c) = run_answers c g in
      let whole : c.answer.slots ≡ length (run_reports c) = r.count ∙ run_whole (used t) (run_from c) (run_reports c) (sym r.stop ∙ z) in
      subst (λ (n : ℕ). AllServed (used t) n (logged (new_log c)) (reported (run_reports c))) whole (demand_3_slots (fresh_refusal ∙ none_table t (run_from c) g.admitted))

-- an accepted slot answers the next record and what ran
step_accepted : (t : Table) (q : Record) (rep : ℕ) → (stepped_by t q rep).refusal ≡ None → ((stepped_by t q rep).next ≡ step_of (used t) q rep) × ((stepped_by t q rep).ran ≡ byte_of (what (used t) q))
unfolding stepped_by slot_under
step_accepted t q rep h = (rw h refl, sym (beside_none _ (byte_of (what (used t) q)) h))

-- ---- a call of `fresh`, and N of `Record::step` on the same table: the first from the record that `fresh` gave, each later one from the record that the one before answered, none refused
pub record StepsFrom (f : FreshCall) (N : ℕ) (steps : ℕ → StepCall) : Type 0 where
  pub begins : 0 < N → step_from (steps 0) ≡ f.answer.start
  pub goes : (n : ℕ) → suc n < N → step_from (steps (suc n)) ≡ (steps n).answer.next
  pub tables : (n : ℕ) → n < N → step_table (steps n) ≡ fresh_table f
  pub accepted : (n : ℕ) → n < N → (steps n).answer.refusal ≡ None

module _ (f : FreshCall) (N : ℕ) (steps : ℕ → StepCall) (chain : StepsFrom f N steps) (z : f.answer.refusal ≡ None) where
  abbrev rs : List Row
  rs = used (fresh_table f)

  -- the record before each slot, and after the last
  recs : ℕ → Record
  recs zero = f.answer.start
  recs (suc n) = (steps n).answer.next

  given : (n : ℕ) → n < N → step_from (steps n) ≡ recs n
  unfolding recs
  given zero l = chain.begins l
  given (suc n) l = chain.goes n l

  -- what an accepted slot answers
  answers : (n : ℕ) → n < N → ((steps n).answer.next ≡ step_of rs (recs n) (step_report (steps n))) × ((steps n).answer.ran ≡ byte_of (what rs (recs n)))
  answers n l =
      let e : (steps n).answer ≡ stepped_by (fresh_table f) (recs n) (step_report (steps n)) = (steps n).meets
      ∙ ap₂ (λ (t : Table) (q : Record). stepped_by t q (step_report (steps n))) (chain.tables n l) (given n l) in
      let a = step_accepted (fresh_table f) (recs n) (step_report (steps n)) (sym (ap (λ (s : Stepped). s.refusal) e) ∙ chain.accepted n l) in
      (ap (λ (s : Stepped). s.next) e ∙ a.0, ap (λ (s : Stepped). s.ran) e ∙ a.1)

  -- 'Take an accepted table, a fresh start and reports of which none is refused', handed over slot by slot
  pub demand_3_steps : AllServed (used (fresh_table f)) N (λ n. work_of (steps n).answer.ran) (λ n. step_report (steps n))
  unfolding recs started_for fresh_record step_of
  demand_3_steps =
      let accepted : table_refusal (fresh_table f) ≡ None = sym (ap (λ (s : Started). s.refusal) f.meets) ∙ z in
      let ok : Usable rs = table_usable (fresh_table f) accepted in
      let works : (n : ℕ) → n < N → work_of (steps n).answer.ran ≡ what rs (recs n) = λ n l. ap work_of (answers n l).1 ∙ what_byte rs ok.few (recs n) in
      course_served rs ok N recs (λ n. work_of (steps n).answer.ran) (λ n. step_report (steps n)) (record {
        begins = ap (λ (s : Started). s.start) f.meets ∙ rw accepted refl;
        allowed = λ n l. rw (works n l) (what_allowed rs (recs n));
        goes = λ n l. rw (works n l) (answers n l).0;
      })
