-- One slot of a sound record, as the code meets it.
-- Assumes nothing.
use Rattle.refusal.specs.Order.{beside, verdict}
use Rattle.std.specs.Prelude.{None, Err, Ok, Some}
use mathlib.Core.Path.{◌≡◌, refl, sym, ap, ap₂, ◌∙◌, subst}
use Prim.Native.Nat.{ℕ, zero, suc, ◌≤◌, ◌<◌}
use native.Mathlib.Nat.{le_of_dvd}
use native.Mathlib.Omega.{arith}
use lib.ListN.{length}
use Rattle.refusal.specs.declared.Refusal.{Refusal}
use Rattle.refusal.proofs.Order.{beside_none, ok_none, err_some}
use Rattle.table.specs.declared.Table.{Table}
use Rattle.table.specs.Rows.{used, row_at, cycle_of}
use Rattle.table.proofs.Cycle.{cycle_multiple}
use Rattle.table.proofs.Check.{used_count}
use Rattle.rule.specs.Slots.{first_row}
use Rattle.reserve.specs.Turns.{Ready}
use Rattle.reserve.proofs.Verdict.{table_rows, table_accepted}
use mathlib.Core.List.{List}
use Rattle.slots.specs.declared.Job.{Job}
use Rattle.slots.specs.declared.Record.{Record}
use Rattle.slots.specs.declared.Stepped.{Stepped}
use Rattle.slots.specs.declared.Awaiting.{Awaiting}
use Rattle.slots.specs.Records.{job_at}
use Rattle.slots.specs.OneSlot.{Work, idle, primary, alternate, reserved, unreserved, byte_of, holder_at, lowest_waiting, next_clock, worked, renewed, what, step_by, step_of, waits}
use Rattle.slots.specs.Reports.{report_refusal}
use Rattle.slots.specs.History.{work_of}
use Rattle.slots.specs.Answers.{slot_under}
use Rattle.slots.specs.Turns.{members_of, entry_of, Workable, Steady}
use Rattle.slots.proofs.JobFacts.{fits_units}
use Rattle.slots.proofs.SoundRecord.{Usable, table_usable, Sound, sound_at}
use Rattle.slots.proofs.SlotActs.{InRows, the_holder, allowed_row}
use Rattle.slots.proofs.StaysSound.{what_allowed}
use Rattle.slots.proofs.RunFacts.{what_byte}

-- ---- the next record
pub record_next : (q : Record) (t : Table) (cycle c ran report : ℕ) (done after : List Job) → Ready t cycle
    → c ≡ next_clock cycle q.clock → done ≡ worked (work_of ran) report (used t) q.jobs → after ≡ renewed c (used t) done
    → ◌≡◌ {A = Record} (record { clock = c; jobs = after }) (step_by (used t) q (work_of ran) report)
unfolding step_by
record_next q t cycle c ran report done after r e f g =
    let h : c ≡ next_clock (cycle_of (used t)) q.clock = e ∙ ap (λ (L : ℕ). next_clock L q.clock) r.is_cycle in
    simp (g, f, h)

-- ---- a sound record of an accepted table
module _ {t : Table} {cycle : ℕ} {q : Record} (g : Steady t cycle q) where
  pub stands_ready : Ready t cycle
  stands_ready = record { rows = table_rows t g.table; is_cycle = g.is_cycle }

  pub stands_few : t.n ≤ 16
  stands_few = (table_accepted t g.table).few

  module _ (e : length q.jobs ≡ 16) where
    pub stands_sound : Sound (used t) q
    stands_sound = sound_at (used t) q e g.sound

    pub stands_ticks : q.clock < cycle
    stands_ticks = omega (arith, g.is_cycle, stands_sound.ticks)

  rows : Usable (used t)
  rows = table_usable t g.table

  -- the row that holds a slot is one of sixteen
  pub stands_holder : (holder s : ℕ) → holder ≡ holder_at (used t) q s → holder ≤ 16
  stands_holder holder s e = go holder (sym e)
    where
      go : (h : ℕ) → holder_at (used t) q s ≡ h → h ≤ 16
      go zero e = omega arith
      go (suc i) e = omega (arith, (the_holder (used t) q s i e).0, rows.few)

  -- ---- the entry that the slot's unit moves is a row's, and its primary has run no more units than the cycle has slots
  module _ (full : length t.rows ≡ 16) where
    in_rows : (w : Work) → InRows (used t) w → entry_of w < length (used t)
    unfolding entry_of
    in_rows idle r = omega (arith, used_count t full stands_few, (table_accepted t g.table).some)
    in_rows (primary k) r = r
    in_rows (alternate k) r = r

    pub work_row : entry_of (what (used t) q) < length (used t)
    work_row = in_rows (what (used t) q) (allowed_row (used t) q (what (used t) q) (what_allowed (used t) q))

    pub work_small : length q.jobs ≡ 16 → (job_at q.jobs (entry_of (what (used t) q))).run < 65535
    work_small sixteen =
        let i : ℕ = entry_of (what (used t) q) in
        let u = fits_units (row_at (used t) i) (job_at q.jobs i) ((stands_sound sixteen).jobs_fit_lem i work_row) in
        let p : (row_at (used t) i).period ≤ cycle_of (used t) = le_of_dvd rows.cycle (cycle_multiple (used t) i work_row) in
        omega (arith, u, (rows.good i work_row).primary_fits, p, (table_accepted t g.table).cycle)

  -- ---- the byte that runs, from the holder and the waiting rows
  pub byte_is : length t.rows ≡ 16 → (holder : ℕ) → holder ≡ holder_at (used t) q q.clock → (m : Awaiting) → m ≡ members_of q.jobs t.n
      → (ran : ℕ) → ran ≡ byte_of (reserved holder (unreserved m.row)) → ran ≡ byte_of (what (used t) q)
  unfolding what lowest_waiting members_of
  byte_is full holder held m found ran e =
      let n : length (used t) ≡ t.n = used_count t full stands_few in
      let r : m.row ≡ first_row (waits q.jobs) (length (used t)) = ap (λ (x : Awaiting). x.row) found ∙ rw n refl in
      e ∙ ap₂ (λ (h k : ℕ). byte_of (reserved h (unreserved k))) held r

  module _ (ran : ℕ) (is : ran ≡ byte_of (what (used t) q)) where
    pub runs_what : work_of ran ≡ what (used t) q
    runs_what = ap work_of is ∙ what_byte (used t) rows.few q

    pub stands_workable : length q.jobs ≡ 16 → length t.rows ≡ 16 → Workable t q.jobs ran
    stands_workable sixteen full = record {
      few = omega (arith, stands_few);
      row = omega (arith, ap entry_of runs_what, work_row full, used_count t full stands_few);
      small = subst (λ (w : Work). (job_at q.jobs (entry_of w)).run < 65535) (sym runs_what) (work_small full sixteen);
    }

    module _ (report : ℕ) where
      is_refusal : report_refusal (what (used t) q) report ≡ report_refusal (work_of ran) report
      is_refusal = ap (λ (w : Work). report_refusal w report) (sym runs_what)

      pub settled_none : (u : Unit) → verdict (report_refusal (work_of ran) report) ≡ Ok u → (next : Record) → next ≡ step_by (used t) q (work_of ran) report
          → ◌≡◌ {A = Stepped} (record { refusal = None; next = next; ran = ran }) (slot_under (report_refusal (what (used t) q) report) (used t) q report)
      unfolding slot_under step_of
      settled_none u z next e =
          let n : next ≡ step_by (used t) q (what (used t) q) report = e ∙ ap (λ (w : Work). step_by (used t) q w report) runs_what in
          let h : report_refusal (what (used t) q) report ≡ None = is_refusal ∙ ok_none _ tt u z in
          rw (h, n)
          (ap (λ (b : ℕ). record { refusal = None; next = step_by (used t) q (what (used t) q) report; ran = b }) (is ∙ beside_none None (byte_of (what (used t) q)) refl))

      pub settled_refused : (f : Refusal) → verdict (report_refusal (work_of ran) report) ≡ Err f
          → ◌≡◌ {A = Stepped} (record { refusal = Some f; next = q; ran = 0 }) (slot_under (report_refusal (what (used t) q) report) (used t) q report)
      unfolding slot_under beside
      settled_refused f z = rw (is_refusal ∙ err_some _ tt f z) refl
