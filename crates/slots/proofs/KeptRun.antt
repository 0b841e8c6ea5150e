-- A list of reports, stretch by stretch, with the buffer true at the beginning of each.
-- Assumes nothing.
use Rattle.std.proofs.lemmas.Option.{none-some}
use Rattle.slots.specs.Answers.{slot_under}
use Rattle.std.specs.Prelude.{None, Some, Err}
use mathlib.Core.Path.{◌≡◌, refl, sym, ap, ◌∙◌, subst}
use mathlib.Core.Logic.{⊎_elim}
use mathlib.Core.Bool.{true, false, cond}
use mathlib.Core.List.{List}
use Prim.Native.Nat.{ℕ, ◌+◌, ◌-◌, ◌≤◌, ◌<◌}
use native.Mathlib.Omega.{arith}
use borrow.Author.Tests.{eqb-true, eqb-false}
use lib.Dec.{eqb}
use lib.ListN.{length, get_or}
use Rattle.refusal.specs.declared.Refusal.{Refusal}
use Rattle.table.specs.declared.Row.{Row}
use Rattle.table.specs.declared.Table.{Table}
use Rattle.table.specs.Rows.{used}
use Rattle.rule.proofs.Tests.{split}
use Rattle.reserve.specs.Tables.{ends}
use Rattle.reserve.specs.Turns.{Ready}
use Rattle.reserve.proofs.Verdict.{table_accepted}
use Rattle.slots.specs.declared.Job.{Job}
use Rattle.slots.specs.declared.Record.{Record}
use Rattle.slots.specs.OneSlot.{waits, reserved, unreserved, renewed, holder_at, what}
use Rattle.slots.specs.WaitingSet.{set_from}
use Rattle.slots.specs.Reports.{run_of, report_refusal}
use Rattle.slots.specs.Buffer.{Kept, Freed, Stale}
use Rattle.slots.specs.Turns.{Steady, Quiet, Standing, RunLeaves, lowest_in, turn_of, lost_by}
use Rattle.slots.proofs.SoundRecord.{table_usable}
use Rattle.slots.proofs.Settled.{stands_ready, stands_sound}
use Rattle.slots.proofs.LostBound.{open_units, open_few}
use Rattle.slots.proofs.Renewals.{Renewal, renewal_start, renewal_jobs, renewal_set, renewal_quiet}
use Rattle.slots.proofs.RunLoop.{Going, going_start, Passed, passed_none, passed_join, stops_answer, ends_answer, ends_lost}
use Rattle.slots.proofs.Stretches.{Stretching, true_now, passed_now, stretch_report, stretch_ticks, stretch_refused}

-- a buffer that is true of a record, whatever it is held to have held
kept_since : {rs : List Row} {cycle : ℕ} {q : Record} {old mid kept : List ℕ} → length mid ≡ length old → ((s : ℕ) → cycle ≤ s → get_or mid s 0 ≡ get_or old s 0)
    → Kept rs cycle q mid kept → Kept rs cycle q old kept
kept_since e h g = record { ticks = g.ticks; size = g.size ∙ e; behind = g.behind; ahead = g.ahead; past = λ s l. g.past s l ∙ h s l }

-- ---- at the beginning of a stretch. The list began with the record of clock₀ and jobs₀ at the i₀-th report, with lost₀ lost and the log and buffer log₀ and kept₀
pub record Coursing (t : Table) (cycle : ℕ) (reps log₀ kept₀ : List ℕ) (jobs₀ : List Job) (clock₀ lost₀ i₀ : ℕ) (log kept : List ℕ) (jobs : List Job)
    (clock waiting opens lost i : ℕ) : Type 0 where
  pub passed : Passed t reps (record { clock = clock₀; jobs = jobs₀ }) i₀ lost₀ log₀ (record { clock = clock; jobs = jobs }) i lost log
  pub going : Going t cycle reps (record { clock = clock; jobs = jobs }) i
  pub few : lost + open_units (used t) jobs ≤ 65536 + i
  pub short : length reps < 9223372036854775808
  pub full : length t.rows ≡ 16
  pub room : cycle ≤ length kept₀
  pub true_buffer : Kept (used t) cycle (record { clock = clock; jobs = jobs }) kept₀ kept
  pub is_set : waiting ≡ set_from (waits jobs) 0 t.n
  pub quiet : Quiet (used t) cycle clock opens

pub coursing_start : {t : Table} {cycle clock : ℕ} {jobs : List Job} {waiting opens : ℕ} {kept : List ℕ} → Standing t cycle clock jobs waiting opens kept
    → length jobs ≡ 16 → length t.rows ≡ 16 → (reps : List ℕ) → length reps < 9223372036854775808 → (log : List ℕ)
    → Coursing t cycle reps log kept jobs clock 0 0 log kept jobs clock waiting opens 0 0
coursing_start {t} {cycle} {clock} {jobs} g e f reps u log =
    let q : Record = record { clock = clock; jobs = jobs } in
    let s : Steady t cycle q = g.steady in
    record {
      passed = passed_none t reps q 0 0 log;
      going = going_start s e reps;
      few = omega (arith, open_few (used t) (table_usable t s.table) q (stands_sound s e) (table_accepted t s.table).cycle);
      short = u;
      full = f;
      room = g.room;
      true_buffer = g.true_buffer;
      is_set = g.is_set;
      quiet = g.quiet;
    }

-- ---- the list's end
pub course_ends : {t : Table} {cycle : ℕ} {reps log₀ kept₀ : List ℕ} {jobs₀ : List Job} {clock₀ : ℕ} {log kept : List ℕ} {jobs : List Job} {clock waiting opens lost i : ℕ}
    → Coursing t cycle reps log₀ kept₀ jobs₀ clock₀ 0 0 log kept jobs clock waiting opens lost i → length reps ≤ i
    → RunLeaves (run_of (used t) (record { clock = clock₀; jobs = jobs₀ }) reps) log₀ None i (record { clock = clock; jobs = jobs }) log
course_ends f u = ends_answer f.passed u

pub course_lost : {t : Table} {cycle : ℕ} {reps log₀ kept₀ : List ℕ} {jobs₀ : List Job} {clock₀ : ℕ} {log kept : List ℕ} {jobs : List Job} {clock waiting opens lost i : ℕ}
    → Coursing t cycle reps log₀ kept₀ jobs₀ clock₀ 0 0 log kept jobs clock waiting opens lost i → length reps ≤ i → lost ≡ lost_by (used t) (record { clock = clock₀; jobs = jobs₀ }) reps
course_lost f u = ends_lost f.passed u

-- ---- a stretch has ended
module _ {t : Table} {cycle : ℕ} {reps log₁ kept₁ : List ℕ} {jobs₁ : List Job} {clock₁ opens₁ lost₁ i₁ : ℕ} {log kept : List ℕ} {jobs : List Job}
    {clock waiting lost i stop finished : ℕ} (g : Stretching t cycle reps log₁ kept₁ jobs₁ clock₁ opens₁ lost₁ i₁ log kept jobs clock waiting lost i stop finished) where
  ready : Ready t cycle
  ready = stands_ready g.going.steady

  module _ (c : ℕ) (is : c ≡ cond (eqb clock cycle) 0 clock) where
    -- the clock goes to 0 at the cycle's end, and else stays
    ticked : c < cycle
    ticked =
        ⊎_elim (λ (h : eqb clock cycle ≡ true). omega (arith, is, ap (λ b. cond b 0 clock) h, eqb-true clock cycle h, g.quiet.later, g.quiet.within))
        (λ (h : eqb clock cycle ≡ false).
        let ne : clock ≡ cycle → ⊥ = eqb-false clock cycle h in
        omega (arith, is, ap (λ b. cond b 0 clock) h, ne, g.upto, g.quiet.within)) (split (eqb clock cycle))

    pub opening_begins : Renewal t cycle c jobs jobs 0 cycle t.n
    opening_begins = renewal_start ready g.full c ticked jobs g.sixteen

    stays : 0 < c → c ≡ clock
    stays l = ⊎_elim (λ (h : eqb clock cycle ≡ true). absurd (omega (arith, l, is, ap (λ b. cond b 0 clock) h))) (λ (h : eqb clock cycle ≡ false). is ∙ ap (λ b. cond b 0 clock) h) (split (eqb clock cycle))

    module _ {xs : List Job} {x opens k : ℕ} (r : Renewal t cycle c jobs xs x opens k) (over : k ≤ 0) (end : stop ≤ i) where
      after : i₁ < i
      after = omega (arith, g.begun, end)

      -- the record that stands, with the windows that open
      is_record : g.q ≡ record { clock = c; jobs = xs }
      is_record = g.turned after ∙ ap (λ (n : ℕ). record { clock = n; jobs = renewed n (used t) jobs }) (sym is) ∙ ap (λ (js : List Job). record { clock = c; jobs = js }) (sym (renewal_jobs r over))

      abbrev q : Record
      q = record { clock = c; jobs = xs }

      going_on : Going t cycle reps q i
      going_on = subst (λ (y : Record). Going t cycle reps y i) is_record g.going

      pub stale_steady : Steady t cycle q
      stale_steady = going_on.steady

      pub stale_room : cycle ≤ length kept
      stale_room = omega (arith, g.room, g.size)

      pub stale_buffer : Stale (used t) cycle q finished kept
      stale_buffer = record {
        behind = λ l s u. g.behind s (omega (arith, stays l));
        ahead = λ l z s u v. g.ahead z s (omega (arith, stays l)) v ∙ ap (λ (y : Record). holder_at (used t) y s) is_record;
        after_done = λ l n z.
            let d = (g.after_done n z).1 (omega (arith, stays l, ticked)) in
            subst (λ (y : ℕ). Freed (used t) cycle q n (ends (used t) n (y - 1)) kept) (sym (stays l)) (subst (λ (y : Record). Freed (used t) cycle y n (ends (used t) n (clock - 1)) kept) is_record d);
      }

      -- the next stretch
      pub coursing_step : {log₀ kept₀ : List ℕ} {jobs₀ : List Job} {clock₀ waiting₁ lost₀ i₀ : ℕ} → Coursing t cycle reps log₀ kept₀ jobs₀ clock₀ lost₀ i₀ log₁ kept₁ jobs₁ clock₁ waiting₁ opens₁ lost₁ i₁
          → {new : List ℕ} → Kept (used t) cycle q kept new → Coursing t cycle reps log₀ kept₀ jobs₀ clock₀ lost₀ i₀ log new xs c x opens lost i
      coursing_step f {new} b =
          let p = subst (λ (y : Record). Passed t reps (record { clock = clock₁; jobs = jobs₁ }) i₁ lost₁ log₁ y i lost log) is_record g.passed in
          record {
            passed = passed_join f.passed p;
            going = going_on;
            few = omega (arith, p.few, p.count, g.few);
            short = g.short;
            full = g.full;
            room = f.room;
            true_buffer = kept_since (g.size ∙ f.true_buffer.size) (λ s l. g.past s l ∙ f.true_buffer.past s l) b;
            is_set = renewal_set r over;
            quiet = renewal_quiet r over;
          }

  -- ---- the list is stopped in the stretch
  module _ {log₀ kept₀ : List ℕ} {jobs₀ : List Job} {clock₀ waiting₁ lost₀ i₀ : ℕ} (f : Coursing t cycle reps log₀ kept₀ jobs₀ clock₀ lost₀ i₀ log₁ kept₁ jobs₁ clock₁ waiting₁ opens₁ lost₁ i₁)
    where
      pub stop_buffer : length kept ≡ length kept₀
      stop_buffer = g.size ∙ f.true_buffer.size

      pub stop_kept : i < stop → Kept (used t) cycle (record { clock = clock; jobs = jobs }) kept₀ kept
      stop_kept l =
          record {
            ticks = stretch_ticks g l;
            size = stop_buffer;
            behind = g.behind;
            ahead = true_now g l;
            past = λ s u. g.past s u ∙ f.true_buffer.past s u;
          }

pub stop_answer : {t : Table} {cycle : ℕ} {reps log₁ kept₁ : List ℕ} {jobs₁ : List Job} {clock₁ opens₁ lost₁ i₁ : ℕ} {log kept : List ℕ} {jobs : List Job}
    {clock waiting lost i stop finished : ℕ} {log₀ kept₀ : List ℕ} {jobs₀ : List Job} {clock₀ waiting₁ : ℕ}
    → (g : Stretching t cycle reps log₁ kept₁ jobs₁ clock₁ opens₁ lost₁ i₁ log kept jobs clock waiting lost i stop finished)
    → (f : Coursing t cycle reps log₀ kept₀ jobs₀ clock₀ 0 0 log₁ kept₁ jobs₁ clock₁ waiting₁ opens₁ lost₁ i₁) → (l : i < stop)
    → (r : Refusal) → turn_of (reserved (get_or kept clock 0) (unreserved (lowest_in waiting))) (get_or reps i 0) ≡ Err r
    → RunLeaves (run_of (used t) (record { clock = clock₀; jobs = jobs₀ }) reps) log₀ (Some r) i (record { clock = clock; jobs = jobs }) log
unfolding slot_under
stop_answer {t} {reps = reps} {jobs = jobs} {clock = clock} {i = i} g f l r e =
    let told = stretch_refused g l r e in
    let q : Record = record { clock = clock; jobs = jobs } in
    let rep : ℕ = get_or reps i 0 in
    rw (← told) (stops_answer (passed_join f.passed (passed_now g l)) (stretch_report g l) (slot_under (report_refusal (what (used t) q) rep) (used t) q rep) refl (λ z. none-some r (sym z ∙ told)))

-- and then no lost units are told
pub stop_lost : (r : Refusal) (lost x : ℕ) → Some r ≡ None → lost ≡ x
stop_lost r lost x e = absurd (none-some r (sym e))
