-- A list of reports from a sound record, as the loop over it meets it.
-- Assumes nothing.
use Rattle.std.specs.Prelude.{Option, None}
use mathlib.Core.Path.{◌≡◌, refl, sym, ap, ap₂, ◌∙◌}
use mathlib.Core.Bool.{true, false}
use mathlib.Core.List.{List, [], ◌∷◌, ◌++◌, append_assoc, append-nil}
use Prim.Native.Nat.{ℕ, ◌+◌, ◌≤◌, ◌<◌}
use native.Mathlib.Omega.{arith}
use native.Mathlib.Numerals.{add-one}
use lib.ListN.{length, get_or, set, drop, length-append, drop_of_length-le}
use lib.Seq.{drop-cons, sets}
use Rattle.refusal.specs.declared.Refusal.{Refusal}
use Rattle.refusal.specs.Order.{accepted}
use Rattle.refusal.proofs.Lent.{sets_more}
use Rattle.refusal.proofs.Order.{Told, refused, beside_none}
use Rattle.table.specs.declared.Row.{Row}
use Rattle.table.specs.declared.Table.{Table}
use Rattle.table.specs.Rows.{used}
use Rattle.slots.specs.declared.Record.{Record}
use Rattle.slots.specs.declared.Stepped.{Stepped}
use Rattle.slots.specs.OneSlot.{Work, idle, primary, alternate, what, byte_of, step_of}
use Rattle.slots.specs.Reports.{report_refusal, Outcome, stopped, onto, run_of}
use Rattle.slots.specs.Answers.{slot_under}
use Rattle.slots.specs.Turns.{Steady, RunLeaves, loss_at, lost_by}
use Rattle.slots.proofs.SoundRecord.{Sound, table_usable, sound_if}
use Rattle.slots.proofs.SlotActs.{InRows, allowed_row}
use Rattle.slots.proofs.StaysSound.{what_allowed, step_sound}
use Rattle.slots.proofs.RunFacts.{run_none, run_on, run_stops}
use Rattle.slots.proofs.JoinedRuns.{after}
use Rattle.slots.proofs.Settled.{stands_sound}
use Rattle.slots.proofs.LostRows.{by_none, by_more}
use Rattle.slots.proofs.LostBound.{open_units, loss_open}

-- a byte of the log is less than 33
byte_few : (rs : List Row) (w : Work) → length rs ≤ 16 → InRows rs w → byte_of w < 33
unfolding byte_of
byte_few rs idle l r = omega arith
byte_few rs (primary k) l r = omega arith
byte_few rs (alternate k) l r = omega arith

-- ---- one slot's answer
module _ (t : Table) (q : Record) (rep : ℕ) (s : Stepped) (e : s ≡ slot_under (report_refusal (what (used t) q) rep) (used t) q rep) where
  pub slot_refusal : s.refusal ≡ report_refusal (what (used t) q) rep
  unfolding slot_under
  slot_refusal = ap (λ (x : Stepped). x.refusal) e

  module _ (d : s.refusal ≡ None) where
    pub slot_accepted : accepted (report_refusal (what (used t) q) rep) ≡ true
    slot_accepted = ap accepted (sym slot_refusal ∙ d)

    pub slot_next : s.next ≡ step_of (used t) q rep
    unfolding slot_under
    slot_next = ap (λ (x : Stepped). x.next) e ∙ rw slot_accepted refl

    pub slot_byte : s.ran ≡ byte_of (what (used t) q)
    unfolding slot_under
    slot_byte = ap (λ (x : Stepped). x.ran) e ∙ sym (beside_none (report_refusal (what (used t) q) rep) (byte_of (what (used t) q)) (sym slot_refusal ∙ d))

    pub slot_small : {cycle : ℕ} → Steady t cycle q → s.ran < 33
    slot_small g = rw slot_byte (byte_few (used t) (what (used t) q) (table_usable t g.table).few (allowed_row (used t) q (what (used t) q) (what_allowed (used t) q)))

  pub slot_stops : Told s.refusal → accepted (report_refusal (what (used t) q) rep) ≡ false
  slot_stops p = ap accepted (sym slot_refusal) ∙ refused s.refusal p

-- the first report of those that are left
pub next_report : (reps : List ℕ) (i : ℕ) → i < length reps → drop i reps ≡ get_or reps i 0 ∷ drop (i + 1) reps
next_report reps i l = rw add-one (drop-cons reps i 0 l)

-- ---- what every loop over the reports holds: the record is sound, of sixteen entries
pub record Going (t : Table) (cycle : ℕ) (reps : List ℕ) (q : Record) (i : ℕ) : Type 0 where
  pub within : i ≤ length reps
  pub steady : Steady t cycle q
  pub sixteen : length q.jobs ≡ 16

pub going_start : {t : Table} {cycle : ℕ} {q : Record} → Steady t cycle q → length q.jobs ≡ 16 → (reps : List ℕ) → Going t cycle reps q 0
going_start g e reps = record { within = omega arith; steady = g; sixteen = e }

-- checking the table and the record once at the start is enough: the next record is sound again
pub going_step : {t : Table} {cycle : ℕ} {reps : List ℕ} {q : Record} {i : ℕ} → Going t cycle reps q i → i < length reps
    → (s : Stepped) → s ≡ slot_under (report_refusal (what (used t) q) (get_or reps i 0)) (used t) q (get_or reps i 0) → s.refusal ≡ None → Going t cycle reps s.next (i + 1)
going_step {t} {cycle} {reps} {q} {i} g l s e d =
    let r = get_or reps i 0 in
    let n : s.next ≡ step_of (used t) q r = slot_next t q r s e d in
    let sure : Sound (used t) (step_of (used t) q r) = step_sound (used t) (table_usable t g.steady.table) q r (stands_sound g.steady g.sixteen) in
    record {
      within = omega arith;
      steady = record { table = g.steady.table; is_cycle = g.steady.is_cycle; sound = rw n (sound_if (used t) (step_of (used t) q r) sure) };
      sixteen = rw n sure.sixteen;
    }

-- ---- some of the slots: from the record p, where the list has come to its a-th report and `units` are lost, to the record q at the i-th
pub record Passed (t : Table) (reps : List ℕ) (p : Record) (a units : ℕ) (old : List ℕ) (q : Record) (i lost : ℕ) (log : List ℕ) : Type 0 where
  -- the bytes of those slots
  pub bytes : List ℕ
  pub count : i ≡ a + length bytes
  pub is_log : log ≡ sets old a bytes
  pub rest : run_of (used t) p (drop a reps) ≡ after bytes (run_of (used t) q (drop i reps))
  -- what they have lost, and what the waiting jobs may still lose
  pub loses : units + lost_by (used t) p (drop a reps) ≡ lost + lost_by (used t) q (drop i reps)
  pub few : lost + open_units (used t) q.jobs ≤ units + open_units (used t) p.jobs + length bytes

pub passed_none : (t : Table) (reps : List ℕ) (p : Record) (a units : ℕ) (old : List ℕ) → Passed t reps p a units old p a units old
passed_none t reps p a units old = record { bytes = []; count = omega arith; is_log = refl; rest = refl; loses = refl; few = omega arith }

after_more : (bs cs : List ℕ) (o : Outcome) → after bs (after cs o) ≡ after (bs ++ cs) o
after_more bs cs o = ap (λ (x : List ℕ). record { refusal = o.refusal; next = o.next; log = x }) (sym (append_assoc bs cs o.log))

pub passed_join : {t : Table} {reps : List ℕ} {p : Record} {a units : ℕ} {old : List ℕ} {q : Record} {i lost : ℕ} {log : List ℕ} {r : Record} {j more : ℕ} {new : List ℕ}
    → Passed t reps p a units old q i lost log → Passed t reps q i lost log r j more new → Passed t reps p a units old r j more new
passed_join {t} {reps} {p} {a} {units} {old} {q} {i} {lost} {log} {r} {j} {more} {new} f g = record {
  bytes = f.bytes ++ g.bytes;
  count = omega (arith, f.count, g.count, length-append f.bytes g.bytes);
  is_log = g.is_log ∙ ap₂ (λ (x : List ℕ) (n : ℕ). sets x n g.bytes) f.is_log f.count ∙ sets_more f.bytes g.bytes old a;
  rest = f.rest ∙ ap (after f.bytes) g.rest ∙ after_more f.bytes g.bytes (run_of (used t) r (drop j reps));
  loses = f.loses ∙ g.loses;
  few = omega (arith, f.few, g.few, length-append f.bytes g.bytes);
}

-- one slot
module _ {t : Table} {cycle : ℕ} {reps : List ℕ} {q : Record} {i : ℕ} (g : Going t cycle reps q i) (l : i < length reps) (s : Stepped)
    (e : s ≡ slot_under (report_refusal (what (used t) q) (get_or reps i 0)) (used t) q (get_or reps i 0)) (d : s.refusal ≡ None) (x : ℕ) (is-loss : x ≡ loss_at q.jobs (what (used t) q)) where
  abbrev rep : ℕ
  rep = get_or reps i 0

  -- what is lost was open, and the slot opens one unit at most
  pub opened : x + open_units (used t) s.next.jobs ≤ 1 + open_units (used t) q.jobs
  opened =
      let o = loss_open (used t) (table_usable t g.steady.table) q (stands_sound g.steady g.sixteen) rep in
      rw (slot_next t q rep s e d) (omega (arith, o, is-loss))

  pub passed_one : (lost : ℕ) (log : List ℕ) → Passed t reps q i lost log s.next (i + 1) (lost + x) (set log i s.ran)
  passed_one lost log = record {
    bytes = s.ran ∷ [];
    count = refl;
    is_log = refl;
    rest =
        ap (run_of (used t) q) (next_report reps i l)
        ∙ run_on (used t) q rep (drop (i + 1) reps) (slot_accepted t q rep s e d)
        ∙ ap₂ (λ (b : ℕ) (n : Record). onto b (run_of (used t) n (drop (i + 1) reps))) (sym (slot_byte t q rep s e d)) (sym (slot_next t q rep s e d));
    loses =
        ap (λ (ys : List ℕ). lost + lost_by (used t) q ys) (next_report reps i l)
        ∙ rw (slot_next t q rep s e d) (omega (arith, by_more (used t) q rep (drop (i + 1) reps), is-loss));
    few = omega (arith, opened);
  }

-- ---- the whole list, from its first report
module _ {t : Table} {start : Record} {reps old : List ℕ} {q : Record} {i lost : ℕ} {log : List ℕ} (f : Passed t reps start 0 0 old q i lost log) where
  -- the run is over at slot i
  gives : (why : Option Refusal) → run_of (used t) q (drop i reps) ≡ record { refusal = why; next = q; log = [] } → RunLeaves (run_of (used t) start reps) old why i q log
  gives why e =
      let o : run_of (used t) start reps ≡ record { refusal = why; next = q; log = f.bytes ++ [] } = f.rest ∙ ap (after f.bytes) e in
      let b : (run_of (used t) start reps).log ≡ f.bytes = ap (λ (o : Outcome). o.log) o ∙ append-nil f.bytes in
      record {
        stop = sym (ap (λ (o : Outcome). o.refusal) o);
        count = sym (ap length b ∙ omega (arith, f.count));
        after = sym (ap (λ (o : Outcome). o.next) o);
        written = rw b f.is_log;
      }

  pub stops_answer : i < length reps → (s : Stepped) → s ≡ slot_under (report_refusal (what (used t) q) (get_or reps i 0)) (used t) q (get_or reps i 0) → Told s.refusal
      → RunLeaves (run_of (used t) start reps) old s.refusal i q log
  stops_answer l s e p =
      gives s.refusal
      (ap (run_of (used t) q) (next_report reps i l)
      ∙ run_stops (used t) q (get_or reps i 0) (drop (i + 1) reps) (slot_stops t q (get_or reps i 0) s e p)
      ∙ ap (λ (f : Option Refusal). stopped f q) (sym (slot_refusal t q (get_or reps i 0) s e)))

  module _ (u : length reps ≤ i) where
    pub ends_answer : RunLeaves (run_of (used t) start reps) old None i q log
    ends_answer = gives None (ap (run_of (used t) q) (drop_of_length-le reps u) ∙ run_none (used t) q)

    pub ends_lost : lost ≡ lost_by (used t) start reps
    ends_lost =
        let z : lost_by (used t) q (drop i reps) ≡ 0 = ap (lost_by (used t) q) (drop_of_length-le reps u) ∙ by_none (used t) q in
        omega (arith, f.loses, z)
