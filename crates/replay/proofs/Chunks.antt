-- Reports that come chunk by chunk give what the one list that the chunks are gives over a fresh start: by the law of joined lists, chunk after chunk.
-- Assumes nothing.
use Rattle.std.specs.Result.{result_unwrap_or}
use Rattle.std.specs.Prelude.{Option, None}
use mathlib.Core.Path.{◌≡◌, refl, sym, ap, ap₂, ◌∙◌}
use mathlib.Core.Logic.{⊎_elim}
use mathlib.Core.Bool.{true, false}
use mathlib.Core.List.{List, [], ◌∷◌, ◌++◌, append_assoc, append-nil}
use Prim.Native.Nat.{ℕ, ◌+◌, ◌≤◌}
use lib.ListN.{length, length-append}
use Rattle.refusal.specs.declared.Refusal.{Refusal}
use Rattle.refusal.specs.Order.{accepted, beside, answer}
use Rattle.refusal.proofs.Order.{accepted_none, passes, beside_none, beside_not, answer_again, answer_beside}
use Rattle.table.specs.declared.Row.{Row}
use Rattle.table.specs.declared.Table.{Table}
use Rattle.table.specs.Rows.{used, cycle_of}
use Rattle.rule.proofs.Tests.{split, never}
use Rattle.reserve.specs.Check.{table_refusal}
use Rattle.slots.specs.declared.Record.{Record}
use Rattle.slots.specs.declared.Started.{Started}
use Rattle.slots.specs.Records.{fresh_of, fresh_record, started_for}
use Rattle.slots.specs.Sound.{record_refusal}
use Rattle.slots.specs.Reports.{Outcome, run_of}
use Rattle.slots.specs.History.{logged, reported}
use Rattle.slots.specs.Answers.{told, ran_by}
use Rattle.slots.specs.LostUnits.{lost_units, lost_refusal, lost_from, lost_fresh}
use Rattle.slots.specs.Turns.{lost_by}
use Rattle.slots.proofs.SoundRecord.{Sound, table_usable, sound_if, sound_none}
use Rattle.slots.proofs.StaysSound.{fresh_sound}
use Rattle.slots.proofs.RunFacts.{run_none, next_sound}
use Rattle.slots.proofs.JoinedRuns.{after, join_run, join_stopped}
use Rattle.slots.proofs.LostRows.{by_none}
use Rattle.slots.proofs.LostSum.{lost_beside}
use Rattle.slots.proofs.JoinedLost.{join_lost}
use Rattle.slots.proofs.AnswerCases.{has_room, outcome_run}
use Rattle.replay.specs.declared.Progress.{Progress}
use Rattle.replay.specs.Chunks.{replay_of, replay_log, start_of, moved_on, onward_of, chunk_log, after_chunks, chunks_log, joined}

-- ---- lost units from a sound record of an accepted table, kept slot by slot
module _ (t : Table) (z : table_refusal t ≡ None) (q : Record) (s : Sound (used t) q) where
  abbrev rs : List Row
  rs = used t

  pub admitted : record_refusal t q ≡ None
  admitted = sound_none t q z (sound_if (used t) q s)

  pub units_by : (reps : List ℕ) → result_unwrap_or (lost_from t q reps) 0 ≡ beside (run_of (used t) q reps).refusal (lost_by (used t) q reps)
  unfolding lost_from lost_refusal
  units_by reps =
      let f : Option Refusal = (run_of rs q reps).refusal in
      let sum : ℕ = lost_units rs q (logged (run_of rs q reps).log) (reported reps) (length reps) in
      answer_beside (lost_refusal t q reps) sum
      ∙ ap (λ (g : Option Refusal). beside g sum) (sym (passes (record_refusal t q) f admitted))
      ∙ sym (lost_beside rs (table_usable t z) q s reps f refl)

module _ (t : Table) (z : table_refusal t ≡ None) where
  -- ---- a list over a fresh start
  is_fresh : fresh_record t ≡ fresh_of (used t)
  unfolding fresh_record
  is_fresh = rw z

  pub starts_sound : Sound (used t) (fresh_record t)
  starts_sound = rw is_fresh (fresh_sound (used t) (table_usable t z))

  module _ (reps : List ℕ) where
    abbrev o : Outcome
    o = run_of (used t) (fresh_record t) reps

    pub replay_slots : (replay_of t reps).slots ≡ length (replay_log t reps)
    unfolding replay_of replay_log
    replay_slots = refl

    pub replay_lost : (replay_of t reps).lost ≡ beside (run_of (used t) (fresh_record t) reps).refusal (lost_by (used t) (fresh_record t) reps)
    unfolding replay_of lost_fresh
    replay_lost = units_by t z (fresh_record t) starts_sound reps

    pub replay_sound : Sound (used t) (replay_of t reps).next
    unfolding replay_of
    replay_sound = next_sound (used t) (table_usable t z) (fresh_record t) starts_sound reps

    -- what the library's `Record::run` from the fresh record and `lost_fresh` answer for the list, with any log that has room for it and any buffer that has room for the cycle
    pub replay_ran : (old kept : List ℕ) → length reps ≤ length old → cycle_of (used t) ≤ length kept
        → ran_by t (fresh_record t) reps old kept ≡ record { refusal = (replay_of t reps).refusal; slots = (replay_of t reps).slots; next = (replay_of t reps).next }
    unfolding ran_by replay_of
    replay_ran old kept l m = rw (outcome_run t (fresh_record t) reps old kept (admitted t z (fresh_record t) starts_sound) (has_room t reps old kept l m)) refl

    pub replay_units : lost_fresh t reps ≡ answer (replay_of t reps).refusal (replay_of t reps).lost
    unfolding lost_fresh lost_from lost_refusal replay_of
    replay_units =
        let sum : ℕ = lost_units (used t) (fresh_record t) (logged o.log) (reported reps) (length reps) in
        let same : lost_refusal t (fresh_record t) reps ≡ o.refusal = sym (passes (record_refusal t (fresh_record t)) o.refusal (admitted t z (fresh_record t) starts_sound)) in
        rw same (answer_again o.refusal sum)

  -- no report
  pub replay_none : start_of t ≡ replay_of t []
  unfolding start_of replay_of
  replay_none =
      let q : Record = fresh_record t in
      let e : run_of (used t) q [] ≡ record { refusal = None; next = q; log = [] } = run_none (used t) q in
      let u : (replay_of t []).lost ≡ 0 = replay_lost [] ∙ ap (λ (o : Outcome). beside o.refusal (lost_by (used t) q [])) e ∙ sym (beside_none None (lost_by (used t) q []) refl) ∙ by_none (used t) q in
      rw (u, e) refl

  -- ---- one more chunk: the progress and the log are those of the lists joined
  module _ (xs ys : List ℕ) where
    abbrev q : Record
    q = fresh_record t

    abbrev first : Outcome
    first = run_of (used t) (fresh_record t) xs

    abbrev second : Outcome
    second = run_of (used t) (run_of (used t) (fresh_record t) xs).next ys

    stopped : accepted first.refusal ≡ false → run_of (used t) q (xs ++ ys) ≡ first
    stopped h = join_stopped (used t) q xs ys (λ e. never (ap accepted e) h)

    goes_on : accepted first.refusal ≡ true → run_of (used t) q (xs ++ ys) ≡ after first.log second
    goes_on h = join_run (used t) q xs ys (accepted_none first.refusal h)

    lost_stopped : accepted first.refusal ≡ false → (replay_of t xs).lost ≡ (replay_of t (xs ++ ys)).lost
    lost_stopped h =
        replay_lost xs
        ∙ sym (beside_not first.refusal (lost_by (used t) q xs) h)
        ∙ beside_not (run_of (used t) q (xs ++ ys)).refusal (lost_by (used t) q (xs ++ ys)) (ap (λ (o : Outcome). accepted o.refusal) (stopped h) ∙ h)
        ∙ sym (replay_lost (xs ++ ys))

    lost_on : accepted first.refusal ≡ true → beside second.refusal ((replay_of t xs).lost + (result_unwrap_or (lost_from t first.next ys) 0)) ≡ (replay_of t (xs ++ ys)).lost
    lost_on h =
        let more : ℕ = lost_by (used t) first.next ys in
        let s : Sound (used t) first.next = next_sound (used t) (table_usable t z) q starts_sound xs in
        ap₂ (λ (x y : ℕ). beside second.refusal (x + y)) (replay_lost xs ∙ sym (beside_none first.refusal (lost_by (used t) q xs) (accepted_none first.refusal h))) (units_by t z first.next s ys)
        ∙ ⊎_elim
        (λ (k : accepted second.refusal ≡ true).
        ap (λ (y : ℕ). beside second.refusal (lost_by (used t) q xs + y)) (sym (beside_none second.refusal more (accepted_none second.refusal k)))
        ∙ ap (beside second.refusal) (sym (join_lost (used t) q xs ys (accepted_none first.refusal h))))
        (λ (k : accepted second.refusal ≡ false).
        sym (beside_not second.refusal (lost_by (used t) q xs + beside second.refusal more) k) ∙ beside_not second.refusal (lost_by (used t) q (xs ++ ys)) k)
        (split (accepted second.refusal))
        ∙ ap (λ (o : Outcome). beside o.refusal (lost_by (used t) q (xs ++ ys))) (sym (goes_on h))
        ∙ sym (replay_lost (xs ++ ys))

    same : (p r : Progress) → p.refusal ≡ r.refusal → p.slots ≡ r.slots → p.lost ≡ r.lost → p.next ≡ r.next → p ≡ r
    same p r a b d e = λ i. record { refusal = a i; slots = b i; lost = d i; next = e i }

    on_stopped : accepted first.refusal ≡ false → replay_of t xs ≡ replay_of t (xs ++ ys)
    unfolding replay_of
    on_stopped h =
        same (replay_of t xs) (replay_of t (xs ++ ys)) (ap (λ (o : Outcome). o.refusal) (sym (stopped h))) (ap (λ (o : Outcome). length o.log) (sym (stopped h))) (lost_stopped h)
        (ap (λ (o : Outcome). o.next) (sym (stopped h)))

    on_whole : accepted first.refusal ≡ true → moved_on (replay_of t xs) (told second) (result_unwrap_or (lost_from t first.next ys) 0) ≡ replay_of t (xs ++ ys)
    unfolding replay_of moved_on
    on_whole h =
        same (moved_on (replay_of t xs) (told second) (result_unwrap_or (lost_from t first.next ys) 0)) (replay_of t (xs ++ ys)) (ap (λ (o : Outcome). o.refusal) (sym (goes_on h)))
        (sym (length-append first.log second.log) ∙ ap (λ (o : Outcome). length o.log) (sym (goes_on h))) (lost_on h)
        (ap (λ (o : Outcome). o.next) (sym (goes_on h)))

    pub onward_joined : onward_of t (replay_of t xs) ys ≡ replay_of t (xs ++ ys)
    unfolding onward_of replay_of
    onward_joined =
        ⊎_elim (λ (h : accepted first.refusal ≡ true). rw h (on_whole h)) (λ (h : accepted first.refusal ≡ false). rw h (on_stopped h)) (split (accepted first.refusal))

    pub log_joined : replay_log t xs ++ chunk_log t (replay_of t xs) ys ≡ replay_log t (xs ++ ys)
    unfolding replay_log chunk_log replay_of
    log_joined =
        ⊎_elim (λ (h : accepted first.refusal ≡ true). rw h (ap (λ (o : Outcome). o.log) (sym (goes_on h))))
        (λ (h : accepted first.refusal ≡ false). rw h (append-nil first.log ∙ ap (λ (o : Outcome). o.log) (sym (stopped h)))) (split (accepted first.refusal))

  -- ---- any chunks
  after_list : (xs : List ℕ) (chunks : List (List ℕ)) → after_chunks t (replay_of t xs) chunks ≡ replay_of t (xs ++ joined chunks)
  unfolding after_chunks joined
  after_list xs [] = ap (replay_of t) (sym (append-nil xs))
  after_list xs (chunk ∷ chunks) =
      ap (λ (p : Progress). after_chunks t p chunks) (onward_joined xs chunk)
      ∙ after_list (xs ++ chunk) chunks
      ∙ ap (replay_of t) (append_assoc xs chunk (joined chunks))

  log_list : (xs : List ℕ) (chunks : List (List ℕ)) → replay_log t xs ++ chunks_log t (replay_of t xs) chunks ≡ replay_log t (xs ++ joined chunks)
  unfolding chunks_log joined
  log_list xs [] = append-nil (replay_log t xs) ∙ ap (replay_log t) (sym (append-nil xs))
  log_list xs (chunk ∷ chunks) =
      sym (append_assoc (replay_log t xs) (chunk_log t (replay_of t xs) chunk) (chunks_log t (onward_of t (replay_of t xs) chunk) chunks))
      ∙ ap₂ ◌++◌ (log_joined xs chunk) (ap (λ (p : Progress). chunks_log t p chunks) (onward_joined xs chunk))
      ∙ log_list (xs ++ chunk) chunks
      ∙ ap (replay_log t) (append_assoc xs chunk (joined chunks))

  -- the chunks of a list, however it is cut, give what the list gives over a fresh start: refusal, slots accepted, lost units, and the record after those slots
  pub chunks_joined : (chunks : List (List ℕ)) → after_chunks t (start_of t) chunks ≡ replay_of t (joined chunks)
  chunks_joined chunks = ap (λ (p : Progress). after_chunks t p chunks) replay_none ∙ after_list [] chunks

  -- and their logs, one after the other, are its log
  pub logs_joined : (chunks : List (List ℕ)) → chunks_log t (start_of t) chunks ≡ replay_log t (joined chunks)
  unfolding replay_log
  logs_joined chunks =
      ap (λ (p : Progress). chunks_log t p chunks) replay_none
      ∙ ap (λ (o : Outcome). o.log ++ chunks_log t (replay_of t []) chunks) (sym (run_none (used t) (fresh_record t)))
      ∙ log_list [] chunks

-- ---- as the code meets it
pub start_is : (t : Table) (s : Started) → s ≡ started_for t → ◌≡◌ {A = Progress} (record { refusal = None; slots = 0; lost = 0; next = s.start }) (start_of t)
unfolding start_of started_for
start_is t s e = rw e refl
