-- Demand 2, its part on slots: 'Reservations and slot choices are those of the backward rate-monotonic rule and the basic runtime rule of Han, Shin and Wu (source document 001), as
-- 01 fixes them on whole slots.' Of what a sound record reserves, and, through the contracts of `Record::what_runs` and `Record::run`, of the byte for each slot.
-- Assumes nothing.
use Rattle.refusal.specs.Order.{answer}
use Rattle.std.specs.Prelude.{None, Ok}
use mathlib.Core.Path.{◌≡◌, refl, sym, ap, ap₂, ◌∙◌, subst}
use mathlib.Core.Logic.{◌≢◌}
use mathlib.Core.Bool.{Bool, false}
use mathlib.Core.List.{List}
use Prim.Native.Nat.{ℕ, zero, suc, ◌≤◌, ◌<◌}
use native.Mathlib.Omega.{arith}
use borrow.Author.Tests.{eqb-true, eq-eqb, ltb-true}
use lib.Dec.{eqb}
use lib.ListN.{length, get_or}
use Rattle.refusal.proofs.Order.{ok_none, ok_figure}
use Rattle.table.specs.declared.Row.{Row}
use Rattle.table.specs.declared.Table.{Table}
use Rattle.table.specs.Rows.{used, cycle_of}
use Rattle.rule.specs.Rule.{takes}
use Rattle.rule.specs.Words.{Follows}
use Rattle.rule.proofs.Tests.{and_left, both_ways, never}
use Rattle.rule.proofs.FirstRow.{first_row_lem, found_none}
use Rattle.rule.proofs.Holders.{holder_is}
use Rattle.rule.proofs.Lacks.{tight_none}
use Rattle.rule.proofs.Enough.{enough_tight}
use Rattle.rule.proofs.Words.{above_same, reserves_same, rule_follows, follows_only}
use Rattle.reserve.specs.Tables.{ends}
use Rattle.reserve.proofs.Tables.{AllGood, windows_of, ends_within}
use Rattle.slots.specs.declared.State.{State}
use Rattle.slots.specs.declared.State.TheVariants.{Waiting, Failed, Done}
use Rattle.slots.specs.declared.Record.{Record}
use Rattle.slots.specs.Records.{job_at}
use Rattle.slots.specs.Sound.{claims_of, sound, record_refusal}
use Rattle.slots.specs.OneSlot.{holder_at, is_waiting, lowest_waiting, reserved, unreserved, what, byte_of}
use Rattle.slots.specs.Reports.{rec_after}
use Rattle.slots.specs.Answers.{asked_of}
use Rattle.slots.proofs.SoundRecord.{Usable, Sound, table_usable, sound_at, none_table, none_sound}
use Rattle.slots.proofs.SlotActs.{the_holder}
use Rattle.slots.proofs.RunFacts.{after_sound}
use Rattle.runs.specs.Demand2.{ReservedFrom, named, Unreserved, LowestWaits, Points}
use Rattle.runs.proofs.Calls.{AskCall, asked_at, asked_table, RunCall, run_from, run_table, run_reports, new_log}
use Rattle.runs.proofs.RunAnswers.{Enters, slot_enters}
use Rattle.runs.proofs.Demand1.{log_new}
use Rattle.runs.proofs.RecordJobs.{record_claims, follows_reserved, reserved_follows}

-- ---- what a record reserves
module _ (rs : List Row) (q : Record) where
  -- the rule's assignment is the one that the holders say
  takes_named : (i s : ℕ) → i < length rs → takes (ends rs) (claims_of rs q) i s ≡ named rs q i s
  unfolding holder_at
  takes_named i s row =
      both_ways (takes (ends rs) (claims_of rs q) i s) (eqb (holder_at rs q s) (suc i))
      (λ t. eq-eqb (holder_at rs q s) (suc i) (holder_is (ends rs) (claims_of rs q) (length rs) i s row t)) (λ e. (the_holder rs q s i (eqb-true (holder_at rs q s) (suc i) e)).1)

  -- of a sound record it follows the words, window by window
  pub record_follows : Usable rs → Sound rs q → Follows (ends rs) (claims_of rs q) (length rs) q.clock (cycle_of rs) (takes (ends rs) (claims_of rs q))
  record_follows ok s =
      rule_follows (windows_of rs ok.good) (record_claims rs ok.good q) q.clock (cycle_of rs)
      (tight_none (ends rs) (claims_of rs q) q.clock (cycle_of rs) (length rs) (enough_tight (ends rs) (claims_of rs q) (length rs) q.clock (cycle_of rs) s.enough))

  -- so what the holders of a sound record say is reserved from it, job by job
  pub record_reserves : Usable rs → Sound rs q → ReservedFrom rs q (named rs q)
  record_reserves ok s =
      let a : ReservedFrom rs q (takes (ends rs) (claims_of rs q)) = follows_reserved rs ok.good q (takes (ends rs) (claims_of rs q)) s.ticks (record_follows ok s) in
      record {
        current = λ i row.
            reserves_same (λ u l. above_same (takes (ends rs) (claims_of rs q)) (named rs q) u i (λ k v. takes_named k u (omega arith))) (λ u l. takes_named i u row)
            (a.current i row);
        later = λ i j row c l.
            reserves_same (λ u v. above_same (takes (ends rs) (claims_of rs q)) (named rs q) u i (λ k w. takes_named k u (omega arith))) (λ u v. takes_named i u row)
            (a.later i j row c l);
      }

  -- and whatever is reserved from a record is what its holders say
  pub record_only : AllGood rs → (A : ℕ → ℕ → Bool) → ReservedFrom rs q A → (i s : ℕ) → i < length rs → q.clock ≤ s → s < cycle_of rs → A i s ≡ named rs q i s
  record_only good A a i s row l u =
      follows_only (windows_of rs good) (record_claims rs good q) q.clock (cycle_of rs) (ends_within rs good) A (reserved_follows rs good q A a) i s row l u ∙ takes_named i s row

-- ---- the three points of a slot
not_waiting : (x : State) → x ≢ Waiting → is_waiting x ≡ false
not_waiting Waiting h = absurd (h refl)
not_waiting Failed h = refl
not_waiting Done h = refl

module _ (rs : List Row) (good : AllGood rs) (q : Record) (ticks : q.clock < cycle_of rs) (A : ℕ → ℕ → Bool) (a : ReservedFrom rs q A) where
  -- what runs, by the slot's holder and the lowest waiting row
  ran : (h row : ℕ) → holder_at rs q q.clock ≡ h → lowest_waiting rs q.jobs ≡ row → byte_of (what rs q) ≡ byte_of (reserved h (unreserved row))
  unfolding what
  ran h row e d = ap₂ (λ (x y : ℕ). byte_of (reserved x (unreserved y))) e d

  only : (i : ℕ) → i < length rs → A i q.clock ≡ named rs q i q.clock
  only i row = record_only rs q good A a i q.clock row (omega arith) ticks

  none_holds : Unreserved rs q A → holder_at rs q q.clock ≡ 0
  none_holds none = go (holder_at rs q q.clock) refl
    where
      go : (h : ℕ) → holder_at rs q q.clock ≡ h → holder_at rs q q.clock ≡ 0
      go zero e = e
      go (suc i) e =
          let row : i < length rs = (the_holder rs q q.clock i e).0 in
          never (only i row ∙ eq-eqb (holder_at rs q q.clock) (suc i) e) (none i row)

  lowest_row : (k : ℕ) → LowestWaits rs q k → lowest_waiting rs q.jobs ≡ suc k
  unfolding lowest_waiting
  lowest_row k w =
      first_row_lem (λ i. is_waiting (job_at q.jobs i).state) (length rs) k
      (record { row = w.row; here = ap is_waiting w.waits; none_before = λ j l. not_waiting (job_at q.jobs j).state (w.none_lower j l) })

  no_row : ((k : ℕ) → k < length rs → (job_at q.jobs k).state ≢ Waiting) → lowest_waiting rs q.jobs ≡ 0
  unfolding lowest_waiting
  no_row none = found_none (λ i. is_waiting (job_at q.jobs i).state) (length rs) (λ k l. not_waiting (job_at q.jobs k).state (none k l))

  what_points : Points rs q A (byte_of (what rs q))
  unfolding byte_of
  what_points = record {
    holder = λ i row t. ran (suc i) (lowest_waiting rs q.jobs) (eqb-true (holder_at rs q q.clock) (suc i) (sym (only i row) ∙ t)) refl;
    lowest = λ none k w. ran 0 (suc k) (none_holds none) (lowest_row k w) ∙ omega arith;
    idle = λ none nobody. ran 0 0 (none_holds none) (no_row nobody);
  }

-- ---- through the contracts
-- where the public question is not refused, the record's holders say what is reserved
pub what_runs_reserves : (c : AskCall) (b : ℕ) → length (asked_at c).jobs ≡ 16 → c.answer ≡ Ok b → ReservedFrom (used (asked_table c)) (asked_at c) (named (used (asked_table c)) (asked_at c))
unfolding asked_of
what_runs_reserves c b sixteen z =
    let t : Table = asked_table c in
    let q : Record = asked_at c in
    let told : answer (record_refusal t q) (byte_of (what (used t) q)) ≡ Ok b = sym c.meets ∙ z in
    let none : record_refusal t q ≡ None = ok_none _ _ b told in
    record_reserves (used t) q (table_usable t (none_table t q none)) (sound_at (used t) q sixteen (none_sound t q none))

-- and the byte that it answers is that of the three points
pub what_runs_points : (c : AskCall) (b : ℕ) → c.answer ≡ Ok b → (A : ℕ → ℕ → Bool) → ReservedFrom (used (asked_table c)) (asked_at c) A
    → Points (used (asked_table c)) (asked_at c) A b
unfolding asked_of sound
what_runs_points c b z A a =
    let t : Table = asked_table c in
    let q : Record = asked_at c in
    let told : answer (record_refusal t q) (byte_of (what (used t) q)) ≡ Ok b = sym c.meets ∙ z in
    let none : record_refusal t q ≡ None = ok_none _ _ b told in
    let ticks : q.clock < cycle_of (used t) = ltb-true q.clock (cycle_of (used t)) (and_left _ _ (none_sound t q none)) in
    subst (λ (x : ℕ). Points (used t) q A x) (ok_figure _ _ b told) (what_points (used t) (table_usable t (none_table t q none)).good q ticks A a)

-- and of each slot of a run: its byte of the log, at the record after the slots before it
pub run_points : (c : RunCall) → length (run_from c).jobs ≡ 16 → (n : ℕ) → n < c.answer.slots
    → (A : ℕ → ℕ → Bool) → ReservedFrom (used (run_table c)) (rec_after (used (run_table c)) (run_from c) (run_reports c) n) A
    → Points (used (run_table c)) (rec_after (used (run_table c)) (run_from c) (run_reports c) n) A (get_or (new_log c) n 0)
run_points c sixteen n l A a =
    let g : Enters c = slot_enters c n l in
    let t : Table = run_table c in
    let q : Record = run_from c in
    let p : Record = rec_after (used t) q (run_reports c) n in
    let ok : Usable (used t) = table_usable t (none_table t q g.admitted) in
    let s : Sound (used t) p = after_sound (used t) ok q (sound_at (used t) q sixteen (none_sound t q g.admitted)) (run_reports c) n in
    let byte : get_or (new_log c) n 0 ≡ byte_of (what (used t) p) = log_new c n l in
    subst (λ (b : ℕ). Points (used t) p A b) (sym byte) (what_points (used t) ok.good p s.ticks A a)
