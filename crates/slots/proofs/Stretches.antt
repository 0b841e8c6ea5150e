-- A stretch of slots, in which no window opens before its end and only its last slot may be a done: the loop over it keeps the buffer true without looking at it.
-- Assumes nothing.
use Rattle.refusal.specs.declared.Refusal.{Refusal}
use Rattle.std.specs.Prelude.{None, Ok, Err, Some}
use mathlib.Core.Path.{◌≡◌, refl, sym, ap, ap₂, ◌∙◌, subst}
use mathlib.Core.Logic.{◌⊎◌, inl, inr, ⊎_elim}
use mathlib.Core.Bool.{true, false, cond, not, ◌&&◌}
use mathlib.Core.List.{List}
use Prim.Native.Nat.{ℕ, zero, suc, ◌+◌, ◌-◌, ◌^◌, ◌≤◌, ◌<◌}
use native.Mathlib.Omega.{arith}
use borrow.Author.Tests.{eqb-true, eqb-false, eq-eqb, ne_eqb}
use lib.Dec.{eqb}
use lib.ListN.{length, get_or, set, length-set}
use lib.Seq.{get_or-set_same, get_or-set_other, ext_get_or}
use Rattle.refusal.specs.Numbers.{number_told}
use Rattle.refusal.specs.Order.{or_else}
use Rattle.refusal.proofs.Order.{ok_none, ok_figure, err_some}
use Rattle.table.specs.declared.Row.{Row}
use Rattle.table.specs.declared.Table.{Table}
use Rattle.table.specs.Rows.{used, blank, row_at, cycle_of}
use Rattle.table.specs.Windows.{starts, window_end}
use Rattle.table.proofs.Windows.{same_end, start_end}
use Rattle.rule.specs.Slots.{first_row}
use Rattle.rule.proofs.Tests.{split, side, false_if}
use Rattle.rule.proofs.FirstRow.{row_first}
use Rattle.reserve.specs.Tables.{ends}
use Rattle.reserve.proofs.Ready.{few, size, row_is}
use Rattle.reserve.proofs.Tables.{AllGood}
use Rattle.slots.specs.declared.State.TheVariants.{Waiting}
use Rattle.slots.specs.declared.Job.{Job}
use Rattle.slots.specs.declared.Record.{Record}
use Rattle.slots.specs.declared.Stepped.{Stepped}
use Rattle.slots.specs.declared.turn.Moved.{Moved}
use Rattle.slots.specs.declared.turn.Turn.{Turn}
use Rattle.slots.specs.Records.{no_job}
use Rattle.slots.specs.OneSlot.{Work, idle, primary, alternate, holder_at, is_waiting, waits, lowest_waiting, reserved, unreserved, what, byte_of, worked, next_clock, renewed, step_by, step_of}
use Rattle.slots.specs.WaitingSet.{set_from}
use Rattle.slots.specs.Reports.{report_refusal}
use Rattle.slots.specs.History.{work_of}
use Rattle.slots.specs.Answers.{slot_under}
use Rattle.slots.specs.Allowed.{Allowed}
use Rattle.slots.specs.Buffer.{Freed}
use Rattle.slots.specs.Turns.{Quiet, lowest_in, entry_of, turn_of, moved_by, moved_of, loss_by, loss_at}
use Rattle.slots.proofs.Entries.{renewed_length, renewed_on, renewed_past}
use Rattle.slots.proofs.SoundRecord.{Usable, Sound, table_usable}
use Rattle.slots.proofs.SetLaws.{lowest_row, member_least}
use Rattle.slots.proofs.SlotActs.{InRows, allowed_row, allowed_primary}
use Rattle.slots.proofs.StaysSound.{what_allowed}
use Rattle.slots.proofs.Keeps.{keeps_holder}
use Rattle.slots.proofs.RunFacts.{what_byte}
use Rattle.slots.proofs.Settled.{stands_ready, stands_sound, stands_holder, work_row, work_small}
use Rattle.slots.proofs.UnitMoves.{moves_worked, moves_lost, moves_set, moves_stay}
use Rattle.slots.proofs.DoneFrees.{done_frees}
use Rattle.slots.proofs.LostBound.{open_units}
use Rattle.slots.proofs.RunLoop.{Going, going_step, Passed, passed_join, passed_one, slot_next, slot_byte}

-- ---- slots at which no window opens
quiet_none : (rs : List Row) → AllGood rs → (cycle c opens : ℕ) → Quiet rs cycle c opens → (i s : ℕ) → i < length rs → c < s → s < opens → starts (row_at rs i) s ≡ false
quiet_none rs good cycle c opens g i zero row l u = absurd (omega arith)
quiet_none rs good cycle c opens g i (suc s) row l u =
    false_if (starts (row_at rs i) (suc s))
    (λ h.
    let e : window_end (row_at rs i) s ≡ suc s = start_end (row_at rs i) (good i row) s h in
    let same : window_end (row_at rs i) s ≡ window_end (row_at rs i) c = same_end (row_at rs i) (good i row) c s (omega arith) (omega (arith, g.none i row)) in
    omega (arith, e, same, g.none i row))

renewed_none : (c : ℕ) (rs : List Row) (js : List Job) → ((i : ℕ) → i < length rs → starts (row_at rs i) c ≡ false) → renewed c rs js ≡ js
renewed_none c rs js none =
    ext_get_or no_job (renewed c rs js) js (renewed_length c rs js)
    (λ i l. ⊎_elim (λ u. renewed_on c rs js i (none i u)) (λ u. renewed_past c rs js i u) (side i (length rs)))

-- the record as the clock has come to slot c with the entries js
abbrev pub turned_at : List Row → ℕ → ℕ → List Job → Record
turned_at rs cycle c js = record { clock = cond (eqb c cycle) 0 c; jobs = renewed (cond (eqb c cycle) 0 c) rs js }

-- ---- the stretch: it began with the record of clock₀ and jobs₀ at the list's i₀-th report, with lost₀ lost and the log and buffer log₀ and kept₀
pub record Stretching (t : Table) (cycle : ℕ) (reps log₀ kept₀ : List ℕ) (jobs₀ : List Job) (clock₀ opens lost₀ i₀ : ℕ) (log kept : List ℕ) (jobs : List Job)
    (clock waiting lost i stop finished : ℕ) : Type 0 where
  -- the record that stands now
  pub q : Record
  pub passed : Passed t reps (record { clock = clock₀; jobs = jobs₀ }) i₀ lost₀ log₀ q i lost log
  pub going : Going t cycle reps q i
  -- that no number overflows
  pub few : lost₀ + open_units (used t) jobs₀ ≤ 65536 + i₀
  pub short : length reps < 9223372036854775808
  pub full : length t.rows ≡ 16
  pub sixteen : length jobs ≡ 16
  pub room : cycle ≤ length kept₀
  -- where the stretch is: windows that open at its end are not looked at yet
  pub quiet : Quiet (used t) cycle clock₀ opens
  pub from : clock₀ ≤ clock
  pub upto : clock ≤ opens
  pub here : clock < opens → q ≡ record { clock = clock; jobs = jobs }
  pub turned : i₀ < i → q ≡ turned_at (used t) cycle clock jobs
  pub begun : i₀ < stop
  pub within : i ≤ stop
  pub list : stop ≤ length reps
  pub near : stop - i ≤ opens - clock
  pub is_set : waiting ≡ set_from (waits jobs) 0 t.n
  -- the buffer
  pub size : length kept ≡ length kept₀
  pub past : (s : ℕ) → cycle ≤ s → get_or kept s 0 ≡ get_or kept₀ s 0
  pub behind : (s : ℕ) → s < clock → get_or kept s 0 ≡ 0
  pub ahead : finished ≡ 0 → (s : ℕ) → clock ≤ s → s < cycle → get_or kept s 0 ≡ holder_at (used t) q s
  pub after_done : (k : ℕ) → finished ≡ suc k → (stop ≤ i) × (clock < cycle → Freed (used t) cycle q k (ends (used t) k (clock - 1)) kept)

module _ {t : Table} {cycle : ℕ} {reps log₀ kept₀ : List ℕ} {jobs₀ : List Job} {clock₀ opens lost₀ i₀ : ℕ} {log kept : List ℕ} {jobs : List Job}
    {clock waiting lost i stop finished : ℕ} (g : Stretching t cycle reps log₀ kept₀ jobs₀ clock₀ opens lost₀ i₀ log kept jobs clock waiting lost i stop finished) where
  -- ---- a slot of it
  module _ (l : i < stop) where
    abbrev rs : List Row
    rs = used t

    abbrev p : Record
    p = record { clock = clock; jobs = jobs }

    abbrev rep : ℕ
    rep = get_or reps i 0

    pub stretch_report : i < length reps
    stretch_report = omega (arith, l, g.list)

    before_opening : clock < opens
    before_opening = omega (arith, l, g.near)

    pub stretch_ticks : clock < cycle
    stretch_ticks = omega (arith, before_opening, g.quiet.within)

    pub stretch_byte : clock < length kept
    stretch_byte = omega (arith, stretch_ticks, g.size, g.room)

    not_done : finished ≡ 0
    not_done = go finished refl
      where
        go : (n : ℕ) → finished ≡ n → finished ≡ 0
        go zero e = e
        go (suc k) e = absurd (omega (arith, (g.after_done k e).0, l))

    is_now : g.q ≡ p
    is_now = g.here before_opening

    now : Going t cycle reps p i
    now = subst (λ (x : Record). Going t cycle reps x i) is_now g.going

    pub passed_now : Passed t reps (record { clock = clock₀; jobs = jobs₀ }) i₀ lost₀ log₀ p i lost log
    passed_now = subst (λ (x : Record). Passed t reps (record { clock = clock₀; jobs = jobs₀ }) i₀ lost₀ log₀ x i lost log) is_now g.passed

    ok : Usable rs
    ok = table_usable t now.steady.table

    sound_now : Sound rs p
    sound_now = stands_sound now.steady g.sixteen

    rows : length rs ≡ t.n
    rows = size (stands_ready now.steady) g.full

    -- ---- the holder and the lowest waiting row
    pub true_now : (s : ℕ) → clock ≤ s → s < cycle → get_or kept s 0 ≡ holder_at rs p s
    true_now s u v = g.ahead not_done s u v ∙ ap (λ (x : Record). holder_at rs x s) is_now

    is_holder : get_or kept clock 0 ≡ holder_at rs p clock
    is_holder = true_now clock (omega arith) stretch_ticks

    pub stretch_holder : get_or kept clock 0 ≤ 16
    stretch_holder = stands_holder now.steady (get_or kept clock 0) clock is_holder

    is_lowest : lowest_in waiting ≡ lowest_waiting rs jobs
    unfolding lowest_waiting
    is_lowest = lowest_row (waits jobs) t.n waiting (few (stands_ready now.steady)) g.is_set ∙ ap (first_row (waits jobs)) (sym rows)

    pub stretch_lowest : lowest_in waiting ≤ 16
    unfolding lowest_waiting
    stretch_lowest = omega (arith, is_lowest, go (lowest_waiting rs jobs) refl)
      where
        go : (n : ℕ) → lowest_waiting rs jobs ≡ n → lowest_waiting rs jobs ≤ 16
        go zero e = omega arith
        go (suc k) e = omega (arith, (row_first (waits jobs) (length rs) k e).row, ok.few)

    is_work : reserved (get_or kept clock 0) (unreserved (lowest_in waiting)) ≡ what rs p
    unfolding what
    is_work = ap₂ (λ (h k : ℕ). reserved h (unreserved k)) is_holder is_lowest

    -- the report is refused
    pub stretch_refused : (f : Refusal) → turn_of (reserved (get_or kept clock 0) (unreserved (lowest_in waiting))) rep ≡ Err f → report_refusal (what rs p) rep ≡ Some f
    stretch_refused f e = err_some (report_refusal (what rs p) rep) _ f (ap (λ (v : Work). turn_of v rep) (sym is_work) ∙ e)

    module _ (d : Turn) (e : turn_of (reserved (get_or kept clock 0) (unreserved (lowest_in waiting))) rep ≡ Ok d) where
      abbrev w : Work
      w = what rs p

      told : turn_of w rep ≡ Ok d
      told = ap (λ (v : Work). turn_of v rep) (sym is_work) ∙ e

      is_turn : d ≡ record { ran = byte_of w; at = entry_of w }
      is_turn = sym (ok_figure (report_refusal w rep) _ d told)

      is_byte : d.ran ≡ byte_of w
      is_byte = ap (λ (x : Turn). x.ran) is_turn

      is_entry : d.at ≡ entry_of w
      is_entry = ap (λ (x : Turn). x.at) is_turn

      tells : work_of d.ran ≡ w
      tells = ap work_of is_byte ∙ what_byte rs ok.few p

      -- ---- the entry
      row : d.at < t.n
      row = omega (arith, is_entry, rows, work_row now.steady g.full)

      pub stretch_place : d.at < 16
      stretch_place = omega (arith, row, few (stands_ready now.steady))

      there : d.at < length jobs
      there = omega (arith, stretch_place, g.sixteen)

      abbrev job : Job
      job = get_or jobs d.at no_job

      pub stretch_run : job.run < 65535
      stretch_run = subst (λ (n : ℕ). (get_or jobs n no_job).run < 65535) (sym is_entry) (work_small now.steady g.full g.sixteen)

      pub stretch_member : is_waiting job.state ≡ true → 2 ^ d.at ≤ waiting
      stretch_member h =
          let z : d.at - 0 ≡ d.at = omega arith in
          omega (arith, g.is_set, rw z at (member_least (waits jobs) 0 t.n d.at (omega arith) (omega (arith, row)) h))

      -- the slot as one step of the record
      abbrev pub slot : Stepped
      slot = slot_under (report_refusal w rep) rs p rep

      module _ (m : Moved) (em : m ≡ moved_of (work_of d.ran) rep (get_or t.rows d.at blank) job waiting d.at) where
        accepted_report : report_refusal w rep ≡ None
        accepted_report = ok_none (report_refusal w rep) _ d told

        accepted_slot : slot.refusal ≡ None
        unfolding slot_under
        accepted_slot = accepted_report

        is_moved : m ≡ moved_of w rep (row_at rs d.at) job waiting d.at
        is_moved = em ∙ ap₂ (λ (v : Work) (r : Row). moved_of v rep r job waiting d.at) tells (row_is (stands_ready now.steady) g.full d.at row)

        is_job : m.job ≡ moved_by w rep (row_at rs d.at) job
        unfolding moved_of
        is_job = ap (λ (x : Moved). x.job) is_moved

        abbrev jobs' : List Job
        jobs' = set jobs d.at m.job

        is_worked : jobs' ≡ worked w rep rs jobs
        is_worked =
            ap (set jobs d.at) is_job
            ∙ ap (λ (n : ℕ). set jobs n (moved_by w rep (row_at rs n) (get_or jobs n no_job))) is_entry
            ∙ moves_worked rep rs jobs w

        is_lost : m.lost ≡ loss_at jobs w
        unfolding moved_of
        is_lost = ap (λ (x : Moved). x.lost) is_moved ∙ ap (λ (n : ℕ). loss_by w (get_or jobs n no_job)) is_entry ∙ moves_lost jobs w

        is_waiting_lem : m.waiting ≡ set_from (waits jobs') 0 t.n
        unfolding moved_of entry_of
        is_waiting_lem =
            ap (λ (x : Moved). x.waiting) is_moved
            ∙ ap₂ (λ (k : Job) (x : ℕ). cond (is_waiting job.state && not (is_waiting k.state)) (x - 2 ^ d.at) x) (sym is_job) g.is_set
            ∙ moves_set jobs t.n d.at row there m.job
            (λ h. ap (λ (k : Job). is_waiting k.state) is_job ∙ moves_stay w rep (row_at rs d.at) job primaries h)
          where
            primaries : (k : ℕ) → w ≡ primary k → job.state ≡ Waiting
            primaries k h =
                let al = allowed_primary rs p k (subst (Allowed rs p) h (what_allowed rs p)) in
                ap (λ (n : ℕ). (get_or jobs n no_job).state) (is_entry ∙ ap entry_of h) ∙ al.1

        -- ---- the next record
        abbrev next : Record
        next = step_of rs p rep

        is_next : slot.next ≡ next
        is_next = slot_next t p rep slot refl accepted_slot

        turned_next : next ≡ turned_at rs cycle (clock + 1) jobs'
        unfolding step_of step_by next_clock
        turned_next = rw (is_worked, now.steady.is_cycle) refl

        here_next : clock + 1 < opens → next ≡ record { clock = clock + 1; jobs = jobs' }
        here_next u =
            let c : eqb (clock + 1) cycle ≡ false = ne_eqb (clock + 1) cycle (λ z. omega (arith, g.quiet.within)) in
            turned_next
            ∙ rw c (ap (λ (js : List Job). record { clock = clock + 1; jobs = js })
            (renewed_none (clock + 1) rs jobs' (λ k v. quiet_none rs ok.good cycle clock₀ opens g.quiet k (clock + 1) v (omega (arith, g.from)) u)))

        next_passed : Passed t reps p i lost log next (i + 1) (lost + m.lost) (set log i d.ran)
        unfolding slot_under
        next_passed =
            subst (λ (b : ℕ). Passed t reps p i lost log next (i + 1) (lost + m.lost) (set log i b)) (slot_byte t p rep slot refl accepted_slot ∙ sym is_byte)
            (subst (λ (x : Record). Passed t reps p i lost log x (i + 1) (lost + m.lost) (set log i slot.ran)) is_next
            (passed_one now stretch_report slot refl accepted_slot m.lost is_lost lost log))

        -- ---- the buffer
        byte_other : (s : ℕ) → clock < s → get_or (set kept clock 0) s 0 ≡ get_or kept s 0
        byte_other s u = get_or-set_other kept clock s 0 0 (λ z. omega arith)

        -- ---- the row that is done
        abbrev fin : ℕ
        fin = m.finished

        ef : fin ≡ cond (eqb rep 1) d.ran 0
        unfolding moved_of
        ef = ap (λ (x : Moved). x.finished) is_moved ∙ ap (λ (n : ℕ). cond (eqb rep 1) n 0) (sym is_byte)

        -- a done is a primary's
        done_at : (k : ℕ) → fin ≡ suc k → (rep ≡ 1) × (w ≡ primary k)
        unfolding report_refusal byte_of or_else
        done_at k z = ⊎_elim (λ (h : eqb rep 1 ≡ true). yes h) (λ (h : eqb rep 1 ≡ false). absurd (omega (arith, z, ef, ap (λ b. cond b d.ran 0) h))) (split (eqb rep 1))
          where
            which : (v : Work) → report_refusal v 1 ≡ None → byte_of v ≡ suc k → v ≡ primary k
            which idle f b = absurd (omega (arith, ap number_told f))
            which (primary n) f b = ap primary (omega (arith, b))
            which (alternate n) f b = absurd (omega (arith, ap number_told f))

            yes : eqb rep 1 ≡ true → (rep ≡ 1) × (w ≡ primary k)
            yes h =
                let one : rep ≡ 1 = eqb-true rep 1 h in
                let byte : byte_of w ≡ suc k = sym is_byte ∙ sym (ef ∙ ap (λ b. cond b d.ran 0) h) ∙ z in
                (one, which w (ap (report_refusal w) (sym one) ∙ accepted_report) byte)

        no_done : fin ≡ 0 → (k : ℕ) → w ≡ primary k → rep ≡ 1 → ⊥
        unfolding byte_of
        no_done z k h one = omega (arith, z, ef, ap (λ b. cond b d.ran 0) (eq-eqb rep 1 one), is_byte, ap byte_of h)

        next_ahead : fin ≡ 0 → (s : ℕ) → clock + 1 ≤ s → s < cycle → get_or (set kept clock 0) s 0 ≡ holder_at rs next s
        unfolding step_of
        next_ahead z s u v =
            byte_other s (omega arith)
            ∙ true_now s (omega arith) v
            ∙ sym (keeps_holder rs ok p w rep (what_allowed rs p) sound_now (no_done z) s (omega arith) (omega (arith, now.steady.is_cycle)))

        next_freed : (k : ℕ) → fin ≡ suc k → clock + 1 < cycle → Freed rs cycle next k (ends rs k (clock + 1 - 1)) (set kept clock 0)
        unfolding step_of
        next_freed k z u =
            let o = done_at k z in
            let c : clock + 1 - 1 ≡ clock = omega arith in
            let on : suc clock < cycle_of rs = omega (arith, u, now.steady.is_cycle) in
            let place : k < length rs = subst (InRows rs) o.1 (allowed_row rs p w (what_allowed rs p)) in
            rw (c, o.0, o.1, now.steady.is_cycle)
            (done_frees rs ok p sound_now k place on (set kept clock 0) (λ s a b. byte_other s a ∙ true_now s (omega arith) (omega (arith, now.steady.is_cycle))))

        module _ (stop' : ℕ) (es : stop' ≡ cond (eqb fin 0) stop (i + 1)) where
          cut_zero : fin ≡ 0 → stop' ≡ stop
          cut_zero z = es ∙ ap (λ b. cond b stop (i + 1)) (eq-eqb fin 0 z)

          cut_done : (fin ≡ 0 → ⊥) → stop' ≡ i + 1
          cut_done z = es ∙ ap (λ b. cond b stop (i + 1)) (ne_eqb fin 0 z)

          either : (stop' ≡ stop) ⊎ (stop' ≡ i + 1)
          either = ⊎_elim (λ z. inl (cut_zero (eqb-true fin 0 z))) (λ z. inr (cut_done (eqb-false fin 0 z))) (split (eqb fin 0))

          bounds : (i₀ < stop') × (i + 1 ≤ stop') × (stop' ≤ length reps) × (stop' - (i + 1) ≤ opens - (clock + 1))
          bounds =
              ⊎_elim
              (λ z. (omega (arith, z, g.begun), omega (arith, z, l), omega (arith, z, g.list), omega (arith, z, g.near, l)))
              (λ z. (omega (arith, z, passed_now.count), omega (arith, z), omega (arith, z, stretch_report), omega (arith, z)))
              either

          pub stretching_step : {log' : List ℕ} → log' ≡ set log i d.ran
              → Stretching t cycle reps log₀ kept₀ jobs₀ clock₀ opens lost₀ i₀ log' (set kept clock 0) jobs' (clock + 1) m.waiting (lost + m.lost) (i + 1) stop' fin
          stretching_step {log'} el = record {
            q = next;
            passed = subst (λ (x : List ℕ). Passed t reps (record { clock = clock₀; jobs = jobs₀ }) i₀ lost₀ log₀ next (i + 1) (lost + m.lost) x) (sym el) (passed_join passed_now next_passed);
            going = subst (λ (x : Record). Going t cycle reps x (i + 1)) is_next (going_step now stretch_report slot refl accepted_slot);
            few = g.few;
            short = g.short;
            full = g.full;
            sixteen = length-set jobs d.at m.job ∙ g.sixteen;
            room = g.room;
            quiet = g.quiet;
            from = omega (arith, g.from);
            upto = omega (arith, before_opening);
            here = here_next;
            turned = λ _. turned_next;
            begun = bounds.0;
            within = bounds.1;
            list = bounds.2;
            near = bounds.3;
            is_set = is_waiting_lem;
            size = length-set kept clock 0 ∙ g.size;
            past = λ s u. byte_other s (omega (arith, stretch_ticks)) ∙ g.past s u;
            behind = λ s u. ⊎_elim (λ (v : s < clock). get_or-set_other kept clock s 0 0 (λ z. omega arith) ∙ g.behind s v) (λ (v : clock ≤ s). let z : s ≡ clock = omega arith in rw z (get_or-set_same kept clock 0 0 stretch_byte)) (side s clock);
            ahead = next_ahead;
            after_done = λ k z. (omega (arith, cut_done (λ y. omega (arith, y, z))), next_freed k z);
          }
