-- One chunk of the reports, run from the record that those before it gave: it stops where the whole list does, and its log's bytes are the whole list's.
-- Assumes nothing.
use Rattle.std.specs.Prelude.{None}
use mathlib.Core.Path.{◌≡◌, sym, ap, ◌∙◌}
use mathlib.Core.Logic.{◌≢◌}
use mathlib.Core.List.{List, ◌++◌}
use Prim.Native.Nat.{ℕ, ◌+◌, ◌-◌, ◌≤◌, ◌<◌}
use native.Mathlib.Omega.{arith}
use lib.ListN.{length, get_or, take, drop, length-append, length-drop, take-append-drop, get_or-append}
use lib.Seq.{length-take-le, take-add, get_or-append-add}
use Rattle.table.specs.declared.Row.{Row}
use Rattle.table.specs.declared.Table.{Table}
use Rattle.table.specs.Rows.{used}
use Rattle.reserve.specs.Check.{table_refusal}
use Rattle.reserve.proofs.Verdict.{table_accepted}
use Rattle.slots.specs.declared.Record.{Record}
use Rattle.slots.specs.declared.Ran.{Ran}
use Rattle.slots.specs.Records.{fresh_record}
use Rattle.slots.specs.OneSlot.{Work, idle, primary, alternate, what, byte_of}
use Rattle.slots.specs.Reports.{Outcome, run_of, rec_after}
use Rattle.slots.specs.Answers.{outcome_of, ran_by, log_after}
use Rattle.slots.proofs.SoundRecord.{Sound, table_usable, sound_if, sound_none}
use Rattle.slots.proofs.SlotActs.{InRows, allowed_row}
use Rattle.slots.proofs.StaysSound.{fresh_sound, what_allowed}
use Rattle.slots.proofs.RunFacts.{run_whole, next_sound, log_bytes}
use Rattle.slots.proofs.JoinedRuns.{after, join_run, join_stopped}
use Rattle.slots.proofs.AnswerCases.{has_room, outcome_run}
use Rattle.bagreport.specs.Turns.{RunTo, Logged}

-- ---- a log's byte is at most that of the sixteenth row's alternate
byte_small : (rs : List Row) → length rs ≤ 16 → (w : Work) → InRows rs w → byte_of w < 33
unfolding byte_of
byte_small rs few idle l = omega arith
byte_small rs few (primary k) l = omega (arith, few, l)
byte_small rs few (alternate k) l = omega (arith, few, l)

pub log_small : (rs : List Row) → length rs ≤ 16 → (q : Record) (reps : List ℕ) (i : ℕ) → i < length (run_of rs q reps).log → get_or (run_of rs q reps).log i 0 < 33
log_small rs few q reps i l =
    let p : Record = rec_after rs q reps i in
    omega (arith, log_bytes rs q reps i l, byte_small rs few (what rs p) (allowed_row rs p (what rs p) (what_allowed rs p)))

-- ---- the fresh record of an accepted table is sound
pub starts_sound : (t : Table) → table_refusal t ≡ None → Sound (used t) (fresh_record t)
unfolding fresh_record
starts_sound t z = rw z (fresh_sound (used t) (table_usable t z))

module _ {t : Table} {reps : List ℕ} {at : ℕ} {q : Record} (g : RunTo t reps at q) where
  abbrev rs : List Row
  rs = used t

  abbrev fresh : Record
  fresh = fresh_record t

  abbrev first : Outcome
  first = run_of (used t) (fresh_record t) (take at reps)

  first_long : length first.log ≡ at
  first_long = run_whole rs fresh (take at reps) g.whole ∙ length-take-le at reps g.within

  stands : Sound (used t) q
  stands = rw g.next (next_sound rs (table_usable t g.table) fresh (starts_sound t g.table) (take at reps))

  module _ (n : ℕ) (fits : at + n ≤ length reps) where
    abbrev chunk : List ℕ
    chunk = take (at + n - at) (drop at reps)

    count : at + n - at ≡ n
    count = omega arith

    chunk_long : length chunk ≡ n
    chunk_long = length-take-le (at + n - at) (drop at reps) (omega (arith, length-drop at reps)) ∙ count

    both : take (at + n) reps ≡ take at reps ++ chunk
    both = take-add at n reps ∙ ap (λ (k : ℕ). take at reps ++ take k (drop at reps)) (sym count)

    abbrev second : Outcome
    second = run_of (used t) q (take (at + n - at) (drop at reps))

    -- the reports up to the chunk's end: those before it, and then the chunk
    first_both : run_of rs fresh (take (at + n) reps) ≡ after first.log second
    first_both =
        ap (run_of rs fresh) both
        ∙ join_run rs fresh (take at reps) chunk g.whole
        ∙ ap (λ (p : Record). after first.log (run_of rs p chunk)) (sym g.next)

    -- the whole list stops where the chunk does
    stops_both : second.refusal ≢ None → (run_of rs fresh reps).refusal ≡ second.refusal
    stops_both h =
        let b : (run_of rs fresh (take (at + n) reps)).refusal ≡ second.refusal = ap (λ (o : Outcome). o.refusal) first_both in
        ap (λ (l : List ℕ). (run_of rs fresh l).refusal) (sym (take-append-drop (at + n) reps))
        ∙ ap (λ (o : Outcome). o.refusal) (join_stopped rs fresh (take (at + n) reps) (drop (at + n) reps) (λ z. h (sym b ∙ z)))
        ∙ b

    -- and where the chunk is accepted, its log's bytes are the whole list's, whatever refuses the rest
    module _ (h : second.refusal ≡ None) where
      both_none : (run_of rs fresh (take (at + n) reps)).refusal ≡ None
      both_none = ap (λ (o : Outcome). o.refusal) first_both ∙ h

      abbrev rest : Outcome
      rest = run_of rs (run_of rs fresh (take (at + n) reps)).next (drop (at + n) reps)

      log_parts : (run_of rs fresh reps).log ≡ (first.log ++ second.log) ++ rest.log
      log_parts =
          ap (λ (l : List ℕ). (run_of rs fresh l).log) (sym (take-append-drop (at + n) reps))
          ∙ ap (λ (o : Outcome). o.log) (join_run rs fresh (take (at + n) reps) (drop (at + n) reps) both_none)
          ∙ ap (λ (o : Outcome). o.log ++ rest.log) first_both

      second_long : length second.log ≡ n
      second_long = run_whole rs q chunk h ∙ chunk_long

      log_at : (i : ℕ) → i < n → get_or (run_of rs fresh reps).log (at + i) 0 ≡ get_or second.log i 0
      log_at i l =
          ap (λ (k : ℕ). get_or (run_of rs fresh reps).log (k + i) 0) (sym first_long)
          ∙ ap (λ (xs : List ℕ). get_or xs (length first.log + i) 0) log_parts
          ∙ get_or-append (first.log ++ second.log) rest.log 0 (length first.log + i) (omega (arith, length-append first.log second.log, second_long))
          ∙ get_or-append-add first.log second.log i 0

    -- ---- as the code meets it: the log has room for the chunk, and the buffer for any cycle
    module _ (old kept : List ℕ) (room : n ≤ length old) (long : length kept ≡ 4096) where
      is_run : outcome_of t q chunk old kept ≡ second
      is_run =
          outcome_run t q chunk old kept (sound_none t q g.table (sound_if rs q stands))
          (has_room t chunk old kept (omega (arith, chunk_long)) (omega (arith, (table_accepted t g.table).cycle)))

      module _ (r : Ran) (e : r ≡ ran_by t q (take (at + n - at) (drop at reps)) old kept) where
        gives_refusal : r.refusal ≡ second.refusal
        unfolding ran_by
        gives_refusal = ap (λ (x : Ran). x.refusal) e ∙ ap (λ (o : Outcome). o.refusal) is_run

        gives_next : r.next ≡ second.next
        unfolding ran_by
        gives_next = ap (λ (x : Ran). x.next) e ∙ ap (λ (o : Outcome). o.next) is_run

        pub chunk_stopped : (r.refusal ≡ None → ⊥) → r.refusal ≡ (run_of (used t) (fresh_record t) reps).refusal
        chunk_stopped h = gives_refusal ∙ sym (stops_both (λ z. h (gives_refusal ∙ z)))

        pub chunk_next : r.refusal ≡ None → RunTo t reps (at + n) r.next
        chunk_next h =
            record {
              table = g.table;
              within = fits;
              whole = both_none (sym gives_refusal ∙ h);
              next = gives_next ∙ ap (λ (o : Outcome). o.next) (sym first_both);
            }

        pub chunk_told : (log : List ℕ) → log ≡ log_after t q (take (at + n - at) (drop at reps)) old kept → length log ≡ length old → r.refusal ≡ None → Logged t reps at n log
        unfolding log_after
        chunk_told log f size h =
            record {
              room = omega (arith, size);
              listed = fits;
              bytes = λ i l. is_byte i l ∙ sym (log_at none i l);
              small = λ i l. omega (arith, is_byte i l, log_small rs (table_usable t g.table).few q chunk i (omega (arith, second_long none)));
            }
          where
            none : second.refusal ≡ None
            none = sym gives_refusal ∙ h

            laid : log ≡ second.log ++ drop (length second.log) old
            laid = f ∙ ap (λ (o : Outcome). o.log ++ drop (length o.log) old) is_run

            is_byte : (i : ℕ) → i < n → get_or log i 0 ≡ get_or second.log i 0
            is_byte i l = ap (λ (xs : List ℕ). get_or xs i 0) laid ∙ get_or-append second.log (drop (length second.log) old) 0 i (omega (arith, second_long none))
