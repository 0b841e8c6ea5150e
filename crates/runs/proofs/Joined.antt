-- Lists of reports joined up, through the contracts of `Record::run` and `Record::lost`: 'A list of reports is run slot by slot, past cycle ends if it is long.' A run of both lists
-- is the run of the first and then that of the second from the record which the first gives, and their lost units add up. Where a law asks that the record has sixteen entries, that
-- is what its type says.
-- Assumes nothing.
use Rattle.std.proofs.lemmas.Option.{none-some}
use Rattle.std.specs.Result.{result_err}
use Rattle.std.specs.Prelude.{None, Err, Ok, Some}
use mathlib.Core.Path.{◌≡◌, refl, sym, ap, ap₂, ◌∙◌}
use mathlib.Core.Logic.{◌≢◌, ⊎_elim}
use mathlib.Core.Bool.{true, false}
use mathlib.Core.List.{List, ◌++◌}
use Prim.Native.Nat.{ℕ, ◌+◌, ◌≤◌}
use lib.ListN.{length, take, length-append}
use Rattle.refusal.specs.declared.Refusal.{Refusal}
use Rattle.refusal.specs.Order.{accepted, or_else}
use Rattle.refusal.proofs.Order.{passes, none_later, answer_err, answer_ok, answer_refusal, err_some, ok_none, ok_figure}
use Rattle.table.specs.declared.Table.{Table}
use Rattle.table.specs.Rows.{used, cycle_of}
use Rattle.rule.proofs.Tests.{split}
use Rattle.slots.specs.declared.Record.{Record}
use Rattle.slots.specs.declared.Ran.{Ran}
use Rattle.slots.specs.Sound.{record_refusal}
use Rattle.slots.specs.Reports.{Outcome, run_of}
use Rattle.slots.specs.History.{logged, reported}
use Rattle.slots.specs.LostUnits.{lost_units, lost_refusal, lost_from}
use Rattle.slots.proofs.SoundRecord.{Usable, table_usable, sound_at, none_table, none_sound}
use Rattle.slots.proofs.HandedBack.{ByReport}
use Rattle.slots.proofs.JoinedRuns.{after, join_run, join_stopped}
use Rattle.slots.proofs.JoinedLost.{joined_units}
use Rattle.runs.proofs.Calls.{RunCall, run_from, run_table, run_reports, run_outcome, old_log, new_log, LostCall, loss_from, loss_table, loss_reports, old_buffer}
use Rattle.runs.proofs.RunAnswers.{report_told, Enters, Leaves, run_answers, run_same, log_bytes, accepted_enters, stopped_enters}
use Rattle.runs.proofs.OnceIsEnough.{next_admitted}

-- ---- runs on one table
-- a run from the record that the first answered
pub record Continues (first second : RunCall) : Type 0 where
  pub table : run_table second ≡ run_table first
  pub from : run_from second ≡ first.answer.next

-- a run from the first's record, of its reports and then ys
pub record Extends (first both : RunCall) (ys : List ℕ) : Type 0 where
  pub table : run_table both ≡ run_table first
  pub from : run_from both ≡ run_from first
  pub reports : run_reports both ≡ run_reports first ++ ys

-- the joined run goes on as the second does, and its log is the first's and then the second's
pub record GoesOn (first second both : RunCall) : Type 0 where
  pub refusal : both.answer.refusal ≡ second.answer.refusal
  pub slots : both.answer.slots ≡ first.answer.slots + second.answer.slots
  pub next : both.answer.next ≡ second.answer.next
  pub log : take both.answer.slots (new_log both) ≡ take first.answer.slots (new_log first) ++ take second.answer.slots (new_log second)

-- the joined run stops where the first does
pub record StopsThere (first both : RunCall) : Type 0 where
  pub answer : both.answer ≡ first.answer
  pub log : take both.answer.slots (new_log both) ≡ take first.answer.slots (new_log first)

-- the lent log and the lent buffer are long enough
pub record Roomy (c : RunCall) : Type 0 where
  pub log : length (run_reports c) ≤ length (old_log c)
  pub buffer : cycle_of (used (run_table c)) ≤ length (old_buffer c)

both_enters : (first both : RunCall) (ys : List ℕ) → Extends first both ys → Enters first → Roomy both → Enters both
both_enters first both ys x g room = record {
  admitted = ap (λ (t : Table). record_refusal t (run_from both)) x.table ∙ ap (record_refusal (run_table first)) x.from ∙ g.admitted;
  room = room.log;
  buffer = room.buffer;
}

-- where the first list is accepted
pub joined_run : (first second both : RunCall) → Continues first second → Extends first both (run_reports second) → length (run_from first).jobs ≡ 16
    → first.answer.refusal ≡ None → Roomy second → Roomy both → GoesOn first second both
joined_run first second both n x sixteen z room₂ room₃ =
    record {
      refusal = g₃.stop ∙ ap (λ (o : Outcome). o.refusal) whole ∙ sym g₂.stop;
      slots = g₃.count ∙ ap (λ (o : Outcome). length o.log) whole ∙ length-append o₁.log o₂.log ∙ ap₂ ◌+◌ (sym g₁.count) (sym g₂.count);
      next = g₃.after ∙ ap (λ (o : Outcome). o.next) whole ∙ sym g₂.after;
      log = log_bytes both e₃ ∙ ap (λ (o : Outcome). o.log) whole ∙ ap₂ ◌++◌ (sym (log_bytes first e₁)) (sym (log_bytes second e₂));
    }
  where
    o₁ : Outcome
    o₁ = run_outcome first

    o₂ : Outcome
    o₂ = run_outcome second

    e₁ : Enters first
    e₁ = accepted_enters first z

    g₁ : Leaves first o₁
    g₁ = run_answers first e₁

    from₂ : run_from second ≡ o₁.next
    from₂ = n.from ∙ g₁.after

    e₂ : Enters second
    e₂ = record {
      admitted =
          ap (λ (t : Table). record_refusal t (run_from second)) n.table
          ∙ ap (record_refusal (run_table first)) from₂
          ∙ next_admitted (run_table first) (run_from first) sixteen e₁.admitted (run_reports first);
      room = room₂.log;
      buffer = room₂.buffer;
    }

    e₃ : Enters both
    e₃ = both_enters first both (run_reports second) x e₁ room₃

    g₂ : Leaves second o₂
    g₂ = run_answers second e₂

    g₃ : Leaves both (run_outcome both)
    g₃ = run_answers both e₃

    whole : run_outcome both ≡ after o₁.log o₂
    whole =
        run_same both x.table x.from x.reports
        ∙ join_run (used (run_table first)) (run_from first) (run_reports first) (run_reports second) (sym g₁.stop ∙ z)
        ∙ ap (after o₁.log) (sym (run_same second n.table from₂ refl))

-- where a report stops it, by 10 or 11
pub joined_stopped : (first both : RunCall) (ys : List ℕ) → Extends first both ys
    → ByReport first.answer.refusal → Roomy both → StopsThere first both
joined_stopped first both ys x by room =
    record {
      answer =
          same_ran both.answer first.answer (g₃.stop ∙ ap (λ (o : Outcome). o.refusal) whole ∙ sym g₁.stop)
          (g₃.count ∙ ap (λ (o : Outcome). length o.log) whole ∙ sym g₁.count) (g₃.after ∙ ap (λ (o : Outcome). o.next) whole ∙ sym g₁.after);
      log = log_bytes both e₃ ∙ ap (λ (o : Outcome). o.log) whole ∙ sym (log_bytes first e₁);
    }
  where
    e₁ : Enters first
    e₁ = stopped_enters first by

    e₃ : Enters both
    e₃ = both_enters first both ys x e₁ room

    g₁ : Leaves first (run_outcome first)
    g₁ = run_answers first e₁

    g₃ : Leaves both (run_outcome both)
    g₃ = run_answers both e₃

    whole : run_outcome both ≡ run_outcome first
    whole =
        run_same both x.table x.from x.reports
        ∙ join_stopped (used (run_table first)) (run_from first) (run_reports first) ys (λ z. report_told first.answer.refusal by (g₁.stop ∙ z))

    same_ran : (r s : Ran) → r.refusal ≡ s.refusal → r.slots ≡ s.slots → r.next ≡ s.next → r ≡ s
    same_ran r s a b d = λ i. record { refusal = a i; slots = b i; next = d i }

-- ---- lost units on one table
-- those of a list from the record that an accepted run of the first list answered
pub record LostNext (first second : LostCall) (ran : RunCall) : Type 0 where
  pub ran_table : run_table ran ≡ loss_table first
  pub ran_from : run_from ran ≡ loss_from first
  pub ran_reports : run_reports ran ≡ loss_reports first
  pub ran_whole : ran.answer.refusal ≡ None
  pub table : loss_table second ≡ loss_table first
  pub from : loss_from second ≡ ran.answer.next

-- those from the first's record, of its reports and then ys
pub record LostBoth (first both : LostCall) (ys : List ℕ) : Type 0 where
  pub table : loss_table both ≡ loss_table first
  pub from : loss_from both ≡ loss_from first
  pub reports : loss_reports both ≡ loss_reports first ++ ys

lost_answers : (c : LostCall) {t : Table} {q : Record} {reps : List ℕ} → loss_table c ≡ t → loss_from c ≡ q → loss_reports c ≡ reps → c.answer ≡ lost_from t q reps
lost_answers c {t} {q} a b d =
    c.meets ∙ ap (λ (u : Table). lost_from u (loss_from c) (loss_reports c)) a ∙ ap (λ (p : Record). lost_from t p (loss_reports c)) b ∙ ap (lost_from t q) d

module _ (t : Table) (q : Record) (reps : List ℕ) where
  is_refusal : result_err (lost_from t q reps) ≡ lost_refusal t q reps
  unfolding lost_from
  is_refusal = answer_refusal (lost_refusal t q reps) _

  lost_none : record_refusal t q ≡ None → (run_of (used t) q reps).refusal ≡ lost_refusal t q reps
  unfolding lost_refusal
  lost_none z = passes (record_refusal t q) (run_of (used t) q reps).refusal z

  none_run : lost_refusal t q reps ≡ None → (run_of (used t) q reps).refusal ≡ None
  unfolding lost_refusal
  none_run z = none_later _ _ z

  abbrev all_lost : ℕ
  all_lost = lost_units (used t) q (logged (run_of (used t) q reps).log) (reported reps) (length reps)

  units_none : lost_refusal t q reps ≡ None → lost_from t q reps ≡ Ok all_lost
  unfolding lost_from
  units_none z = sym (answer_ok (lost_refusal t q reps) all_lost z)

  units_are : (n : ℕ) → lost_from t q reps ≡ Ok n → (lost_refusal t q reps ≡ None) × (all_lost ≡ n)
  unfolding lost_from
  units_are n e = (ok_none (lost_refusal t q reps) all_lost n e, ok_figure (lost_refusal t q reps) all_lost n e)

  -- where there is a refusal it is all that is answered
  lost_refused : (f : Refusal) → lost_refusal t q reps ≡ Some f → lost_from t q reps ≡ Err f
  unfolding lost_from
  lost_refused f e = sym (answer_err (lost_refusal t q reps) all_lost f e)

  stops_more : (ys : List ℕ) → lost_refusal t q reps ≢ None → lost_refusal t q (reps ++ ys) ≡ lost_refusal t q reps
  unfolding lost_refusal or_else
  stops_more ys h =
      ⊎_elim (λ (a : accepted (record_refusal t q) ≡ true).
      rw a (ap (λ (o : Outcome). o.refusal) (join_stopped (used t) q reps ys (λ z. h (rw a z)))))
      (λ (a : accepted (record_refusal t q) ≡ false). rw a refl) (split (accepted (record_refusal t q)))

module _ (first second both : LostCall) (ran : RunCall) (n : LostNext first second ran)
    (x : LostBoth first both (loss_reports second)) (sixteen : length (loss_from first).jobs ≡ 16) where
  abbrev t : Table
  t = loss_table first

  abbrev q : Record
  q = loss_from first

  abbrev xs : List ℕ
  xs = loss_reports first

  abbrev ys : List ℕ
  ys = loss_reports second

  enters : Enters ran
  enters = accepted_enters ran n.ran_whole

  admitted : record_refusal t q ≡ None
  admitted = ap (λ (u : Table). record_refusal u q) (sym n.ran_table) ∙ ap (record_refusal (run_table ran)) (sym n.ran_from) ∙ enters.admitted

  outcome : run_outcome ran ≡ run_of (used t) q xs
  outcome = run_same ran n.ran_table n.ran_from n.ran_reports

  first_whole : (run_of (used t) q xs).refusal ≡ None
  first_whole = ap (λ (o : Outcome). o.refusal) (sym outcome) ∙ sym (run_answers ran enters).stop ∙ n.ran_whole

  second_from : loss_from second ≡ (run_of (used t) q xs).next
  second_from = n.from ∙ (run_answers ran enters).after ∙ ap (λ (o : Outcome). o.next) outcome

  abbrev p : Record
  p = (run_of (used t) q xs).next

  first_is : first.answer ≡ lost_from t q xs
  first_is = first.meets

  second_is : second.answer ≡ lost_from t p ys
  second_is = lost_answers second n.table second_from refl

  both_is : both.answer ≡ lost_from t q (xs ++ ys)
  both_is = lost_answers both x.table x.from x.reports

  refusals : lost_refusal t q (xs ++ ys) ≡ lost_refusal t p ys
  refusals =
      sym (lost_none t q (xs ++ ys) admitted)
      ∙ ap (λ (o : Outcome). o.refusal) (join_run (used t) q xs ys first_whole)
      ∙ lost_none t p ys (next_admitted t q sixteen admitted xs)

  -- the joined lists are refused as the second is
  pub joined_lost_refusal : result_err both.answer ≡ result_err second.answer
  joined_lost_refusal =
      ap result_err both_is
      ∙ is_refusal t q (xs ++ ys)
      ∙ refusals
      ∙ sym (is_refusal t p ys)
      ∙ sym (ap result_err second_is)

  -- and where they are not, neither is the second list, nor the first, and their lost units add up
  pub joined_lost : (n : ℕ) → both.answer ≡ Ok n → (a : ℕ) × ((b : ℕ) × (first.answer ≡ Ok a) × (second.answer ≡ Ok b) × (n ≡ a + b))
  joined_lost n z =
      let told = units_are t q (xs ++ ys) n (sym both_is ∙ z) in
      let ok : Usable (used t) = table_usable t (none_table t q admitted) in (
        all_lost t q xs,
        (
          all_lost t p ys,
          first_is ∙ units_none t q xs (sym (lost_none t q xs admitted) ∙ first_whole),
          second_is ∙ units_none t p ys (sym refusals ∙ told.0),
          sym told.1 ∙ joined_units (used t) ok q (sound_at (used t) q sixteen (none_sound t q admitted)) xs ys (none_run t q (xs ++ ys) told.0),
        ),
      )

-- where the first list is refused so are the joined ones, and by the same refusal
pub joined_lost_stopped : (first both : LostCall) (ys : List ℕ) → LostBoth first both ys → (f : Refusal) → first.answer ≡ Err f → both.answer ≡ Err f
unfolding lost_from
joined_lost_stopped first both ys x f h =
    let t : Table = loss_table first in
    let q : Record = loss_from first in
    let xs : List ℕ = loss_reports first in
    let told : lost_refusal t q xs ≡ Some f = err_some (lost_refusal t q xs) _ f (sym first.meets ∙ h) in
    let same : lost_refusal t q (xs ++ ys) ≡ lost_refusal t q xs = stops_more t q xs ys (λ z. none-some f (sym z ∙ told)) in
    lost_answers both x.table x.from x.reports ∙ lost_refused t q (xs ++ ys) f (same ∙ told)
