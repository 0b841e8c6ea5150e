-- When each refusal of a list of reports is given, and after how many slots: of a run with a lent log, and of lost units. As in ExactlyWhen: what specs/Exactly says of a refusal
-- brings it about, and of every input it says something of some refusal.
-- Assumes nothing.
use Rattle.std.specs.Result.{result_err}
use Rattle.std.specs.Prelude.{Option, Some, None}
use mathlib.Core.Path.{◌≡◌, refl, sym, ap, ◌∙◌, subst}
use mathlib.Core.Logic.{◌⊎◌, inl, inr, ◌↔◌, ⊎_elim}
use mathlib.Core.Bool.{true, false}
use mathlib.Core.List.{List, [], ◌∷◌}
use Prim.Native.Nat.{ℕ, zero, suc, ◌≤◌, ◌<◌}
use native.Mathlib.Omega.{arith}
use lib.ListN.{length, get_or}
use Rattle.refusal.specs.declared.Refusal.{Refusal}
use Rattle.refusal.specs.declared.Refusal.TheVariants.{Room, Report, Stray}
use Rattle.refusal.specs.Numbers.{number_told}
use Rattle.refusal.specs.Order.{accepted, or_else}
use Rattle.refusal.proofs.Order.{accepted_none, answer_refusal}
use Rattle.table.specs.declared.Row.{Row}
use Rattle.table.specs.declared.Table.{Table}
use Rattle.table.specs.Rows.{used, cycle_of}
use Rattle.rule.proofs.Tests.{split, side, never}
use Rattle.reserve.specs.Check.{table_refusal}
use Rattle.reserve.specs.Exactly.{TableGives}
use Rattle.reserve.proofs.Exactly.{table_gives}
use Rattle.slots.specs.declared.Record.{Record}
use Rattle.slots.specs.Records.{fresh_of, fresh_record}
use Rattle.slots.specs.Sound.{record_refusal}
use Rattle.slots.specs.OneSlot.{Work, what, step_of}
use Rattle.slots.specs.Reports.{report_refusal, Outcome, stopped, run_of, rec_after}
use Rattle.slots.specs.Answers.{entry_refusal, outcome_of, ran_by}
use Rattle.slots.specs.LostUnits.{lost_refusal, lost_from, lost_fresh}
use Rattle.slots.specs.Exactly.{RecordGives, ReportGives, AcceptedTo, ListStops, RunGivesAt, LostGives, LostFreshGives, at_record, at_room, at_slot}
use Rattle.slots.proofs.SoundRecord.{table_usable, sound_if}
use Rattle.slots.proofs.StaysSound.{fresh_sound}
use Rattle.slots.proofs.RunFacts.{run_none, run_on, run_stops, after_none, after_first}
use Rattle.slots.proofs.AnswerCases.{lacks_room, has_room, outcome_stopped, entry_room, entry_none, outcome_run}
use Rattle.slots.proofs.ExactlyWhen.{not_none, chain, record_gives, report_gives}

-- ---- a list of reports from a sound record, slot by slot
module _ (rs : List Row) where
  -- one slot accepted before
  stops_on : (q : Record) (rep : ℕ) (reps : List ℕ) (f : Option Refusal) (n : ℕ)
      → ReportGives (what rs q) rep None → ListStops rs (step_of rs q rep) reps f n → ListStops rs q (rep ∷ reps) f (suc n)
  unfolding AcceptedTo
  stops_on q rep reps f n g s =
      record {
        accepted = each;
        stop = ⊎_elim (λ h. inl (h.0, ap suc h.1)) (λ h. inr (omega (arith, h.0), h.1, rw (after_first rs q rep reps n) h.2)) s.stop;
      }
    where
      each : (t : ℕ) → t < suc n → ReportGives (what rs (rec_after rs q (rep ∷ reps) t)) (get_or (rep ∷ reps) t 0) None
      each zero l = rw (after_none rs q (rep ∷ reps)) g
      each (suc t) l = rw (after_first rs q rep reps t) (s.accepted t (omega arith))

  -- what stops the run of the list, if anything does, and after how many slots
  pub list_stops : (q : Record) (reps : List ℕ) → ListStops rs q reps (run_of rs q reps).refusal (length (run_of rs q reps).log)
  unfolding AcceptedTo
  list_stops q [] = rw (run_none rs q) (record { accepted = λ t l. absurd (omega arith); stop = inl (refl, refl) })
  list_stops q (rep ∷ reps) =
      let f : Option Refusal = report_refusal (what rs q) rep in
      let g : ReportGives (what rs q) rep f = (report_gives (what rs q) rep f).0 refl in
      let o : Outcome = run_of rs (step_of rs q rep) reps in
      let more : ListStops rs (step_of rs q rep) reps o.refusal (length o.log) = list_stops (step_of rs q rep) reps in
      ⊎_elim
      (λ (h : accepted f ≡ true).
      rw (run_on rs q rep reps h) (stops_on q rep reps o.refusal (length o.log) (subst (ReportGives (what rs q) rep) (accepted_none f h) g) more))
      (λ (h : accepted f ≡ false).
      rw (run_stops rs q rep reps h)
      (record { accepted = λ t l. absurd (omega arith); stop = inr (omega arith, λ e. never (ap accepted e) h, rw (after_none rs q (rep ∷ reps)) g) }))
      (split (accepted f))

  module _ (q : Record) (reps : List ℕ) where
    -- the report for slot n
    abbrev Heard : ℕ → Option Refusal → Type 0
    Heard n f = ReportGives (what rs (rec_after rs q reps n)) (get_or reps n 0) f

    one_heard : (n : ℕ) {f g : Option Refusal} → Heard n f → Heard n g → f ≡ g
    one_heard n {f} {g} a b =
        let w : Work = what rs (rec_after rs q reps n) in
        sym ((report_gives w (get_or reps n 0) f).1 a) ∙ (report_gives w (get_or reps n 0) g).1 b

    -- it is stopped at one place, by one refusal
    stops_in : {f : Option Refusal} {n : ℕ} → ListStops rs q reps f n → n ≤ length reps
    stops_in a = ⊎_elim (λ h. omega (arith, h.1)) (λ h. omega (arith, h.0)) a.stop

    module _ {f g : Option Refusal} {n m : ℕ} (a : ListStops rs q reps f n) (b : ListStops rs q reps g m) where
      stops_first : m ≤ n
      unfolding AcceptedTo
      stops_first =
          ⊎_elim (λ (l : n < m). ⊎_elim (λ h. absurd (omega (arith, h.1, stops_in b))) (λ h. absurd (h.1 (one_heard n h.2 (b.accepted n l)))) a.stop) (λ (l : m ≤ n). l)
          (side n m)

      stops_same : n ≡ m → f ≡ g
      stops_same e =
          ⊎_elim
          (λ h. ⊎_elim (λ k. h.0 ∙ sym k.0) (λ k. absurd (omega (arith, h.1, k.0))) b.stop)
          (λ h. ⊎_elim (λ k. absurd (omega (arith, h.0, k.1))) (λ k. one_heard m (subst (λ (i : ℕ). Heard i f) e h.2) k.2) b.stop) a.stop

    -- so the run of the list gives f after n slots exactly when f stops it there
    pub list_gives : (f : Option Refusal) (n : ℕ) → (((run_of rs q reps).refusal ≡ f) × (length (run_of rs q reps).log ≡ n)) ↔ ListStops rs q reps f n
    list_gives f n = (to, from)
      where
        is : ListStops rs q reps (run_of rs q reps).refusal (length (run_of rs q reps).log)
        is = list_stops q reps

        to : ((run_of rs q reps).refusal ≡ f) × (length (run_of rs q reps).log ≡ n) → ListStops rs q reps f n
        to h = subst (λ (g : Option Refusal). ListStops rs q reps g n) h.0 (subst (ListStops rs q reps (run_of rs q reps).refusal) h.1 is)

        from : ListStops rs q reps f n → ((run_of rs q reps).refusal ≡ f) × (length (run_of rs q reps).log ≡ n)
        from s =
            let e : length (run_of rs q reps).log ≡ n = omega (arith, stops_first is s, stops_first s is) in
            (stops_same is s e, e)

    -- and with the number of slots left open
    pub stop_gives : (f : Option Refusal) → ((run_of rs q reps).refusal ≡ f) ↔ ((n : ℕ) × ListStops rs q reps f n)
    stop_gives f = (λ e. (length (run_of rs q reps).log, (list_gives f _).0 (e, refl)), λ s. ((list_gives f s.0).1 s.1).0)

-- ---- a run with a lent log that holds `old` and a lent buffer that holds `kept`: 1 to 7, 9, 8, then slot by slot
module _ (t : Table) (q : Record) (reps old kept : List ℕ) where
  -- 1 to 7, 9
  entry_record : (f : Option Refusal) → RecordGives t q f → (f ≡ None → ⊥) → entry_refusal t q reps old kept ≡ f
  unfolding entry_refusal or_else
  entry_record f g h = rw ((record_gives t q f).1 g, not_none f h) refl

  abbrev Gives : Option Refusal → ℕ → Type 0
  Gives = RunGivesAt t q reps old kept

  ran_as : {f : Option Refusal} {n : ℕ} (o : Outcome) → outcome_of t q reps old kept ≡ o → o.refusal ≡ f → length o.log ≡ n
      → ((ran_by t q reps old kept).refusal ≡ f) × ((ran_by t q reps old kept).slots ≡ n)
  unfolding ran_by
  ran_as o h d e = (ap (λ (o : Outcome). o.refusal) h ∙ d, ap (λ (o : Outcome). length o.log) h ∙ e)

  run_if : (f : Option Refusal) (n : ℕ) → Gives f n → ((ran_by t q reps old kept).refusal ≡ f) × ((ran_by t q reps old kept).slots ≡ n)
  run_if f n (at_record g h e) = ran_as (stopped f q) (outcome_stopped t q reps old kept f (entry_record f g h) (not_none f h)) refl (sym e)
  run_if f n (at_room g l d e) =
      ran_as (stopped (Some Room) q) (outcome_stopped t q reps old kept (Some Room) (entry_room t q reps old kept ((record_gives t q None).1 g) (lacks_room t reps old kept l)) refl) (sym d) (sym e)
  run_if f n (at_slot g l u s) =
      let r = (list_gives (used t) q reps f n).1 s in
      ran_as (run_of (used t) q reps) (outcome_run t q reps old kept ((record_gives t q None).1 g) (has_room t reps old kept l u)) r.0 r.1

  some_run : (f : Option Refusal) × ((n : ℕ) × Gives f n)
  some_run =
      let f : Option Refusal = record_refusal t q in
      let g : RecordGives t q f = (record_gives t q f).0 refl in
      ⊎_elim
      (λ (z : accepted f ≡ true).
      let none : RecordGives t q None = subst (RecordGives t q) (accepted_none f z) g in
      ⊎_elim (λ (l : length old < length reps). (Some Room, (0, at_room none (inl l) refl refl)))
      (λ (l : length reps ≤ length old).
      ⊎_elim (λ (u : length kept < cycle_of (used t)). (Some Room, (0, at_room none (inr u) refl refl)))
      (λ (u : cycle_of (used t) ≤ length kept). ((run_of (used t) q reps).refusal, (length (run_of (used t) q reps).log, at_slot none l u (list_stops (used t) q reps))))
      (side (length kept) (cycle_of (used t)))) (side (length old) (length reps)))
      (λ (z : accepted f ≡ false). (f, (0, at_record g (λ e. never (ap accepted e) z) refl)))
      (split (accepted f))

  -- a list that is run to its end, or stopped by a report, is not refused before its first slot
  pub run_entered : (f : Option Refusal) (n : ℕ) → (f ≡ None) ⊎ ((f ≡ Some Report) ⊎ (f ≡ Some Stray)) → Gives f n → entry_refusal t q reps old kept ≡ None
  unfolding RecordGives
  run_entered f n (inl z) (at_record g h e) = absurd (h z)
  run_entered f n (inr (inl z)) (at_record g h e) = absurd (subst (RecordGives t q) z g)
  run_entered f n (inr (inr z)) (at_record g h e) = absurd (subst (RecordGives t q) z g)
  run_entered f n k (at_room g l d e) = absurd (no_room k)
    where
      no_room : (f ≡ None) ⊎ ((f ≡ Some Report) ⊎ (f ≡ Some Stray)) → ⊥
      no_room (inl z) = let y : ◌≡◌ {A = ℕ} 0 8 = ap number_told (sym z ∙ d) in omega arith
      no_room (inr (inl z)) = let y : ◌≡◌ {A = ℕ} 10 8 = ap number_told (sym z ∙ d) in omega arith
      no_room (inr (inr z)) = let y : ◌≡◌ {A = ℕ} 11 8 = ap number_told (sym z ∙ d) in omega arith
  run_entered f n k (at_slot g l u s) = entry_none t q reps old kept ((record_gives t q None).1 g) (has_room t reps old kept l u)

  pub run_gives : (f : Option Refusal) (n : ℕ) → (((ran_by t q reps old kept).refusal ≡ f) × ((ran_by t q reps old kept).slots ≡ n)) ↔ RunGivesAt t q reps old kept f n
  run_gives f n = (to, run_if f n)
    where
      to : ((ran_by t q reps old kept).refusal ≡ f) × ((ran_by t q reps old kept).slots ≡ n) → Gives f n
      to h =
          let s = some_run in
          let r = run_if s.0 s.1.0 s.1.1 in
          subst (λ (g : Option Refusal). Gives g n) (sym r.0 ∙ h.0) (subst (Gives s.0) (sym r.1 ∙ h.1) s.1.1)

-- ---- lost units over a list from a record: 1 to 7, 9, then, slot by slot, 10 before 11
pub lost_gives : (t : Table) (q : Record) (reps : List ℕ) (f : Option Refusal) → (result_err (lost_from t q reps) ≡ f) ↔ LostGives t q reps f
unfolding lost_from lost_refusal LostGives
lost_gives t q reps f =
    subst (λ (g : Option Refusal). (g ≡ f) ↔ LostGives t q reps f) (sym (answer_refusal (lost_refusal t q reps) _))
    (chain (RecordGives t q) (λ g. (n : ℕ) × ListStops (used t) q reps g n) (record_gives t q) (stop_gives (used t) q reps) f)

-- ---- over a fresh start never 9: the fresh record is sound
fresh_refusal : (t : Table) → record_refusal t (fresh_record t) ≡ table_refusal t
unfolding record_refusal or_else fresh_record
fresh_refusal t =
    ⊎_elim
    (λ (z : accepted (table_refusal t) ≡ true).
    let e : table_refusal t ≡ None = accepted_none (table_refusal t) z in
    rw (e, sound_if (used t) (fresh_of (used t)) (fresh_sound (used t) (table_usable t e))) refl)
    (λ (z : accepted (table_refusal t) ≡ false). rw z refl)
    (split (accepted (table_refusal t)))

-- 'The question is refused by 1 to 7, 10 and 11'
pub lost_fresh_gives : (t : Table) (reps : List ℕ) (f : Option Refusal)
    → (result_err (lost_fresh t reps) ≡ f) ↔ LostFreshGives t reps f
unfolding lost_fresh lost_from lost_refusal LostFreshGives
lost_fresh_gives t reps f =
    subst (λ (g : Option Refusal). (g ≡ f) ↔ LostFreshGives t reps f) (sym (answer_refusal (lost_refusal t (fresh_record t) reps) _))
    (chain (TableGives t) (λ g. (n : ℕ) × ListStops (used t) (fresh_record t) reps g n)
    (λ g. subst (λ (h : Option Refusal). (h ≡ g) ↔ TableGives t g) (sym (fresh_refusal t)) (table_gives t g)) (stop_gives (used t) (fresh_record t) reps) f)
