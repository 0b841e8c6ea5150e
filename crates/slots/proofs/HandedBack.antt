-- What a slot and a run hand back, refused ones too: 'A refusal gives back the record of the last accepted slot, or the one handed in where none was, and in a lent log only the
-- bytes of accepted slots are new.'
-- Assumes nothing.
use Rattle.std.specs.Prelude.{Option, Some, None}
use mathlib.Core.Path.{◌≡◌, refl, sym, ap, ◌∙◌, subst}
use mathlib.Core.Logic.{◌⊎◌, inl, inr, ⊎_elim}
use mathlib.Core.Bool.{true, false}
use mathlib.Core.List.{List, [], ◌++◌}
use Prim.Native.Nat.{ℕ, ◌+◌, ◌-◌, ◌≤◌, ◌<◌}
use native.Mathlib.Omega.{arith}
use borrow.Author.Tests.{ltb-true, ltb-false}
use lib.Dec.{ltb}
use lib.ListN.{length, get_or, take, drop, length-append, length-drop, get_or-append}
use lib.Seq.{get_or-append-add, get_or-drop, take_at, drop_at}
use Rattle.refusal.specs.declared.Refusal.{Refusal}
use Rattle.refusal.specs.declared.Refusal.TheVariants.{Room, Report, Stray, Cycle, Dosing, Empty, Long, Many, Order, Record as NotSound, Size, Spans, Tight, Version, Zero}
use Rattle.refusal.specs.Order.{accepted, beside}
use Rattle.refusal.specs.Lent.{overlaid}
use Rattle.refusal.proofs.Order.{accepted_none, none_first, none_later, given_not}
use Rattle.table.specs.declared.Row.{Row}
use Rattle.table.specs.declared.Table.{Table}
use Rattle.table.specs.Rows.{used, cycle_of}
use Rattle.rule.proofs.Tests.{split, and_left, or_first, or_second}
use Rattle.slots.specs.declared.Record.{Record}
use Rattle.slots.specs.declared.Ran.{Ran}
use Rattle.slots.specs.declared.Stepped.{Stepped}
use Rattle.slots.specs.Sound.{sound, record_refusal}
use Rattle.slots.specs.OneSlot.{Work, holder_at, what, byte_of}
use Rattle.slots.specs.Reports.{Outcome, stopped, run_of, rec_after}
use Rattle.slots.specs.Answers.{slot_under, stepped_by, entry_refusal, outcome_of, ran_by, log_after, reservations_of, buffer_after}
use Rattle.slots.specs.Exactly.{ReportGives}
use Rattle.slots.proofs.SoundRecord.{none_sound}
use Rattle.slots.proofs.RunFacts.{run_none, after_none, run_short, run_next, next_ticks, log_bytes}
use Rattle.slots.proofs.KeptBuffer.{reservations_length, reservations_behind, reservations_ahead}
use Rattle.slots.proofs.AnswerCases.{roomless, has_room, outcome_run}
use Rattle.slots.proofs.ExactlyWhen.{not_none}
use Rattle.slots.proofs.ListsWhen.{list_stops, run_entered, run_gives}

-- ---- one slot: beside a refusal, the record given and 0
pub slot_refused : (f : Option Refusal) → (f ≡ None → ⊥) → (rs : List Row) (q : Record) (rep : ℕ) → slot_under f rs q rep ≡ record { refusal = f; next = q; ran = 0 }
unfolding slot_under beside
slot_refused f h rs q rep = rw (not_none f h) refl

pub step_hands_back : (t : Table) (q : Record) (rep : ℕ) → ((stepped_by t q rep).refusal ≡ None → ⊥) → ((stepped_by t q rep).next ≡ q) × ((stepped_by t q rep).ran ≡ 0)
unfolding stepped_by slot_under
step_hands_back t q rep h =
    let e = slot_refused (stepped_by t q rep).refusal h (used t) q rep in
    (ap (λ (s : Stepped). s.next) e, ap (λ (s : Stepped). s.ran) e)

-- ---- a list of reports
-- 10 or 11
abbrev pub ByReport : Option Refusal → Type 0
ByReport f = (f ≡ (Some Report)) ⊎ (f ≡ (Some Stray))

-- what stops the list, if anything does, is one of them
report_kinds : (w : Work) (rep : ℕ) (f : Option Refusal) → ReportGives w rep f → (f ≡ None) ⊎ ByReport f
unfolding ReportGives
report_kinds w rep None g = inl refl
report_kinds w rep (Some Report) g = inr (inl refl)
report_kinds w rep (Some Stray) g = inr (inr refl)
report_kinds w rep (Some Empty) g = elim g [ ]
report_kinds w rep (Some Many) g = elim g [ ]
report_kinds w rep (Some (Zero _)) g = elim g [ ]
report_kinds w rep (Some (Long _)) g = elim g [ ]
report_kinds w rep (Some (Order _)) g = elim g [ ]
report_kinds w rep (Some Cycle) g = elim g [ ]
report_kinds w rep (Some (Tight _)) g = elim g [ ]
report_kinds w rep (Some Room) g = elim g [ ]
report_kinds w rep (Some NotSound) g = elim g [ ]
report_kinds w rep (Some Size) g = elim g [ ]
report_kinds w rep (Some Version) g = elim g [ ]
report_kinds w rep (Some Dosing) g = elim g [ ]
report_kinds w rep (Some Spans) g = elim g [ ]

run_kinds : (rs : List Row) (q : Record) (reps : List ℕ) → ((run_of rs q reps).refusal ≡ None) ⊎ ByReport (run_of rs q reps).refusal
run_kinds rs q reps = ⊎_elim (λ h. inl h.0) (λ h. report_kinds _ _ _ h.2) (list_stops rs q reps).stop

module _ (t : Table) (q : Record) (reps old kept : List ℕ) where
  -- the list is run, and the log has room for it, or nothing is
  outcome_has : (P : Outcome → Type 0) → (length reps ≤ length old → P (run_of (used t) q reps)) → ((f : Option Refusal) → P (stopped f q)) → P (outcome_of t q reps old kept)
  unfolding outcome_of entry_refusal
  outcome_has P run stop =
      ⊎_elim
      (λ (z : accepted (entry_refusal t q reps old kept) ≡ true).
      let room = given_not (roomless t reps old kept) Room (none_later _ _ (accepted_none (entry_refusal t q reps old kept) z)) in
      rw z (run (ltb-false (length old) (length reps) (or_first (ltb (length old) (length reps)) (ltb (length kept) (cycle_of (used t))) room))))
      (λ (z : accepted (entry_refusal t q reps old kept) ≡ false). rw z (stop (entry_refusal t q reps old kept)))
      (split (accepted (entry_refusal t q reps old kept)))

  -- 'the record of the last accepted slot, or the one handed in where none was'
  pub run_hands_back : (ran_by t q reps old kept).next ≡ rec_after (used t) q reps (ran_by t q reps old kept).slots
  unfolding ran_by
  run_hands_back = outcome_has (λ o. o.next ≡ rec_after (used t) q reps (length o.log)) (λ l. run_next (used t) q reps) (λ f. sym (after_none (used t) q reps))

  -- no more slots are accepted than the log has bytes
  log_room : (ran_by t q reps old kept).slots ≤ length old
  unfolding ran_by
  log_room = outcome_has (λ o. length o.log ≤ length old) (λ l. omega (arith, l, run_short (used t) q reps)) (λ f. omega arith)

  abbrev log : List ℕ
  log = (outcome_of t q reps old kept).log

  -- the log keeps its length
  pub log_length : length (log_after t q reps old kept) ≡ length old
  unfolding log_after ran_by
  log_length = omega (arith, log_room, length-append log (drop (length log) old), length-drop (length log) old)

  -- the byte of an accepted slot is what ran there
  pub log_new : (i : ℕ) → i < (ran_by t q reps old kept).slots → get_or (log_after t q reps old kept) i 0 ≡ byte_of (what (used t) (rec_after (used t) q reps i))
  unfolding log_after ran_by
  log_new i l =
      get_or-append log (drop (length log) old) 0 i l
      ∙ outcome_has (λ o. i < length o.log → get_or o.log i 0 ≡ byte_of (what (used t) (rec_after (used t) q reps i))) (λ _ u. log_bytes (used t) q reps i u)
      (λ f u. absurd (omega arith)) l

  -- and 'only the bytes of accepted slots are new'
  pub log_old : (i : ℕ) → (ran_by t q reps old kept).slots ≤ i → get_or (log_after t q reps old kept) i 0 ≡ get_or old i 0
  unfolding log_after ran_by
  log_old i l =
      let e : length log + (i - length log) ≡ i = omega arith in
      ap (λ (k : ℕ). get_or (log ++ drop (length log) old) k 0) (sym e)
      ∙ get_or-append-add log (drop (length log) old) (i - length log) 0
      ∙ get_or-drop (length log) old (i - length log) 0
      ∙ ap (λ (k : ℕ). get_or old k 0) e

  -- a refusal by 1 to 9: nothing is accepted, and nothing changes
  pub early_hands_back : ((ran_by t q reps old kept).refusal ≡ None → ⊥) → ((ran_by t q reps old kept).refusal ≡ (Some Report) → ⊥) → ((ran_by t q reps old kept).refusal ≡ (Some Stray) → ⊥)
      → ((ran_by t q reps old kept).slots ≡ 0) × ((ran_by t q reps old kept).next ≡ q) × (log_after t q reps old kept ≡ old) × (buffer_after t q reps old kept ≡ kept)
  unfolding ran_by log_after buffer_after overlaid outcome_of
  early_hands_back a b c =
      ⊎_elim
      (λ (z : accepted (entry_refusal t q reps old kept) ≡ true).
      absurd (⊎_elim (λ e. (rw z at a) e) (⊎_elim (λ e. (rw z at b) e) (λ e. (rw z at c) e)) (run_kinds (used t) q reps)))
      (λ (z : accepted (entry_refusal t q reps old kept) ≡ false). rw z (refl, refl, refl, refl)) (split (accepted (entry_refusal t q reps old kept)))

  -- ---- the lent buffer
  -- the list was run to its end, or stopped by 10 or 11, 'even at the first slot'
  abbrev pub Entered : Type 0
  Entered = ((ran_by t q reps old kept).refusal ≡ None) ⊎ ByReport (ran_by t q reps old kept).refusal

  abbrev next : Record
  next = (ran_by t q reps old kept).next

  module _ (entered : Entered) where
    entry : entry_refusal t q reps old kept ≡ None
    entry = run_entered t q reps old kept (ran_by t q reps old kept).refusal (ran_by t q reps old kept).slots entered ((run_gives t q reps old kept _ _).0 (refl, refl))

    record_ok : record_refusal t q ≡ None
    unfolding entry_refusal
    record_ok = none_first _ _ entry

    room : roomless t reps old kept ≡ false
    unfolding entry_refusal
    room = given_not (roomless t reps old kept) Room (none_later _ _ entry)

    pub buffer_room : cycle_of (used t) ≤ length kept
    buffer_room = ltb-false (length kept) (cycle_of (used t)) (or_second (ltb (length old) (length reps)) (ltb (length kept) (cycle_of (used t))) room)

    -- the clock of the record handed back is in the cycle
    ticks : next.clock ≤ cycle_of (used t)
    unfolding ran_by sound
    ticks =
        let l : q.clock < cycle_of (used t) = ltb-true q.clock (cycle_of (used t)) (and_left _ _ (none_sound t q record_ok)) in
        subst (λ (o : Outcome). o.next.clock ≤ cycle_of (used t)) (sym (outcome_run t q reps old kept record_ok room)) (omega (arith, next_ticks (used t) q reps l))

    -- 'the buffer's first bytes, one for each slot of the cycle, hold the reservations of the record handed back'; 'later bytes stay'
    pub buffer_built : buffer_after t q reps old kept ≡ reservations_of (used t) next ++ drop (cycle_of (used t)) kept
    unfolding buffer_after overlaid ran_by
    buffer_built = rw entry (ap (λ (n : ℕ). reservations_of (used t) next ++ drop n kept) (reservations_length (used t) next ticks))

    first : (s : ℕ) → s < cycle_of (used t) → get_or (buffer_after t q reps old kept) s 0 ≡ get_or (reservations_of (used t) next) s 0
    first s l =
        ap (λ (xs : List ℕ). get_or xs s 0) buffer_built
        ∙ get_or-append (reservations_of (used t) next) (drop (cycle_of (used t)) kept) 0 s (omega (arith, reservations_length (used t) next ticks))

    -- 'with 0 for slots behind its clock'
    pub buffer_behind : (s : ℕ) → s < next.clock → get_or (buffer_after t q reps old kept) s 0 ≡ 0
    buffer_behind s l = first s (omega (arith, ticks)) ∙ reservations_behind (used t) next ticks s l

    -- and the rule's holders from there on
    pub buffer_ahead : (s : ℕ) → next.clock ≤ s → s < cycle_of (used t) → get_or (buffer_after t q reps old kept) s 0 ≡ holder_at (used t) next s
    buffer_ahead s l u = first s u ∙ reservations_ahead (used t) next ticks s l u

    pub buffer_length : length (buffer_after t q reps old kept) ≡ length kept
    buffer_length =
        ap length buffer_built
        ∙ omega (arith, length-append (reservations_of (used t) next) (drop (cycle_of (used t)) kept), length-drop (cycle_of (used t)) kept, reservations_length (used t) next ticks, buffer_room)

    -- 'later bytes stay'
    pub buffer_later : drop (cycle_of (used t)) (buffer_after t q reps old kept) ≡ drop (cycle_of (used t)) kept
    buffer_later =
        ap (drop (cycle_of (used t))) buffer_built ∙ drop_at (reservations_of (used t) next) (drop (cycle_of (used t)) kept) (cycle_of (used t)) (reservations_length (used t) next ticks)

-- 'whose earlier contents mean nothing': below the cycle the buffer's bytes at exit, and all else that the run hands back, are the same whatever it held
module _ (t : Table) (q : Record) (reps old kept kept' : List ℕ) (same : length kept' ≡ length kept) where
  same_entry : entry_refusal t q reps old kept' ≡ entry_refusal t q reps old kept
  unfolding entry_refusal
  same_entry = rw same refl

  same_outcome : outcome_of t q reps old kept' ≡ outcome_of t q reps old kept
  unfolding outcome_of
  same_outcome = rw same_entry refl

  pub contents_mean_nothing : (ran_by t q reps old kept' ≡ ran_by t q reps old kept) × (log_after t q reps old kept' ≡ log_after t q reps old kept)
  unfolding ran_by log_after
  contents_mean_nothing = rw same_outcome (refl, refl)

  pub buffer_anew : Entered t q reps old kept
      → take (cycle_of (used t)) (buffer_after t q reps old kept') ≡ take (cycle_of (used t)) (buffer_after t q reps old kept)
  buffer_anew e =
      let r : ran_by t q reps old kept' ≡ ran_by t q reps old kept = contents_mean_nothing.0 in
      let e' : Entered t q reps old kept' = subst (λ (x : Ran). (x.refusal ≡ None) ⊎ ByReport x.refusal) (sym r) e in
      whole kept' e' ∙ ap (λ (x : Ran). reservations_of (used t) x.next) r ∙ sym (whole kept e)
    where
      whole : (k : List ℕ) → Entered t q reps old k → take (cycle_of (used t)) (buffer_after t q reps old k) ≡ reservations_of (used t) (ran_by t q reps old k).next
      whole k e =
          ap (take (cycle_of (used t))) (buffer_built t q reps old k e)
          ∙ take_at (reservations_of (used t) (ran_by t q reps old k).next) (drop (cycle_of (used t)) k) (cycle_of (used t)) (reservations_length (used t) _ (ticks t q reps old k e))

-- 'An empty list of reports that meets none of 1 to 9 is accepted and changes neither record nor log.' It leaves the buffer built
pub empty_changes_nothing : (t : Table) (q : Record) (old kept : List ℕ) → record_refusal t q ≡ None → cycle_of (used t) ≤ length kept
    → (ran_by t q [] old kept ≡ record { refusal = None; slots = 0; next = q }) × (log_after t q [] old kept ≡ old)
    × (buffer_after t q [] old kept ≡ reservations_of (used t) q ++ drop (cycle_of (used t)) kept)
unfolding ran_by log_after
empty_changes_nothing t q old kept e l =
    let o : outcome_of t q [] old kept ≡ stopped None q
    = outcome_run t q [] old kept e (has_room t [] old kept (omega arith) l) ∙ run_none (used t) q in
    let r : ran_by t q [] old kept ≡ record { refusal = None; slots = 0; next = q } = rw o refl in
    (r, rw o refl, buffer_built t q [] old kept (inl (ap (λ (x : Ran). x.refusal) r)) ∙ ap (λ (x : Ran). reservations_of (used t) x.next ++ drop (cycle_of (used t)) kept) r)
