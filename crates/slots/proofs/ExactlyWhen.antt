-- When each refusal at a record is given: the column 'Given exactly when' of document 01's 'Numbers of refusal', for 9, 10 and 11 after 1 to 7, in 01's order; 8
-- stands in ListsWhen. What specs/Exactly says of a refusal brings it about (the laws `-if`), and of every input it says something of some refusal (the laws `some-`): so each is
-- given exactly when.
-- Assumes nothing.
use Rattle.std.specs.Prelude.{Option, Some, None}
use mathlib.Core.Path.{◌≡◌, refl, sym, ap, ◌∙◌}
use mathlib.Core.Logic.{◌⊎◌, inl, inr, ◌↔◌, ⊎_elim}
use mathlib.Core.Bool.{Bool, true, false, not, ◌&&◌}
use mathlib.Core.List.{List}
use Prim.Native.Nat.{ℕ, zero, suc, ◌-◌, ◌<◌}
use native.Mathlib.Omega.{arith}
use borrow.Author.Tests.{eqb-true, eq-eqb, ltb-true, lt-ltb, leb-true, le-leb}
use lib.Dec.{ltb, leb, eqb}
use lib.ListN.{length}
use Rattle.refusal.specs.declared.Refusal.{Refusal}
use Rattle.refusal.specs.declared.Refusal.TheVariants.{Empty, Many, Zero, Long, Order, Cycle, Tight, Report, Stray, Dosing, Room, Size, Spans, Version}
use Rattle.refusal.specs.declared.Refusal.TheVariants.{Record as NotSound}
use Rattle.refusal.specs.Order.{accepted, given, or_else}
use Rattle.refusal.proofs.Order.{accepted_none, passes}
use Rattle.table.specs.declared.Row.{Row}
use Rattle.table.specs.declared.Table.{Table}
use Rattle.table.specs.Rows.{used, row_at, cycle_of}
use Rattle.rule.specs.Rule.{begins, lacks, tight_row}
use Rattle.rule.proofs.Tests.{split, never, false_if, and_left, and_right, and_both, or_left, or_right}
use Rattle.rule.proofs.Every.{every_at, every_if}
use Rattle.rule.proofs.Lacks.{begins_cases, lacks_at, at_lacks, tight_none, none_tight}
use Rattle.rule.proofs.Facts.{short_few, few_short}
use Rattle.reserve.specs.Tables.{ends}
use Rattle.reserve.specs.Check.{table_refusal}
use Rattle.reserve.specs.Exactly.{TableGives}
use Rattle.reserve.proofs.Exactly.{exact, table_gives}
use Rattle.slots.specs.declared.State.{State}
use Rattle.slots.specs.declared.State.TheVariants.{Waiting, Failed, Done}
use Rattle.slots.specs.declared.Record.{Record}
use Rattle.slots.specs.Records.{job_at, started_for}
use Rattle.slots.specs.Sound.{state_fits, job_fits, jobs_fit, claims_of, sound, record_refusal}
use Rattle.slots.specs.OneSlot.{Work, idle, primary, alternate, what}
use Rattle.slots.specs.Reports.{ran_primary, report_refusal}
use Rattle.slots.specs.Answers.{stepped_by, slot_under}
use Rattle.slots.specs.Exactly.{Then, StateFits, ShortAt, SoundAt, RecordGives, RanPrimary, ReportGives, SlotGives}

-- ---- a sound record
module _ (p a u left : ℕ) where
  test_state : (x : State) → state_fits x p a u left ≡ true → StateFits x p a u left
  test_state Waiting h = (ltb-true u p (and_left (ltb u p) (eqb left a) h), eqb-true left a (and_right (ltb u p) (eqb left a) h))
  test_state Failed h = (leb-true u p (and_left (leb u p) (leb left a) h), leb-true left a (and_right (leb u p) (leb left a) h))
  test_state Done h =
      let rest = and_right (leb 1 u) (leb u p && eqb left 0) h in
      (leb-true 1 u (and_left (leb 1 u) (leb u p && eqb left 0) h), leb-true u p (and_left (leb u p) (eqb left 0) rest), eqb-true left 0 (and_right (leb u p) (eqb left 0) rest))

  state_test : (x : State) → StateFits x p a u left → state_fits x p a u left ≡ true
  state_test Waiting h = and_both (ltb u p) (eqb left a) (lt-ltb u p h.0) (eq-eqb left a h.1)
  state_test Failed h = and_both (leb u p) (leb left a) (le-leb u p h.0) (le-leb left a h.1)
  state_test Done h = and_both (leb 1 u) (leb u p && eqb left 0) (le-leb 1 u h.0) (and_both (leb u p) (eqb left 0) (le-leb u p h.1) (eq-eqb left 0 h.2))

module _ (rs : List Row) (q : Record) where
  abbrev lacking : ℕ → Bool
  lacking i = lacks (ends rs) (claims_of rs q) q.clock (cycle_of rs) i

  begins_if : (i s : ℕ) → (s ≡ q.clock) ⊎ (ends rs i (s - 1) ≡ s) → begins (ends rs) (claims_of rs q) q.clock i s ≡ true
  unfolding begins
  begins_if i s (inl e) = or_left (eqb s q.clock) (eqb (ends rs i (s - 1)) s) (eq-eqb s q.clock e)
  begins_if i s (inr e) = or_right (eqb s q.clock) (eqb (ends rs i (s - 1)) s) (eq-eqb (ends rs i (s - 1)) s e)

  short_lacks : (i s : ℕ) → ShortAt rs q i s → lacking i ≡ true
  short_lacks i s h =
      at_lacks (ends rs) (claims_of rs q) q.clock (cycle_of rs) i s h.from h.before (begins_if i s h.begins) (few_short (ends rs) (claims_of rs q) i s h.few)

  lacks_short : (i : ℕ) → i < length rs → lacking i ≡ true → (s : ℕ) × ShortAt rs q i s
  lacks_short i row h =
      let r = lacks_at (ends rs) (claims_of rs q) q.clock (cycle_of rs) i h in (
        r.0,
        record {
          row = row;
          from = r.1;
          before = r.2;
          begins = begins_cases (ends rs) (claims_of rs q) q.clock i r.0 r.3;
          few = short_few (ends rs) (claims_of rs q) i r.0 r.4;
        },
      )

  abbrev ticking : Bool
  ticking = ltb q.clock (cycle_of rs)

  abbrev fits : ℕ → Bool
  fits i = job_fits (row_at rs i) (job_at q.jobs i)

  abbrev tight : ℕ
  tight = tight_row (ends rs) (claims_of rs q) q.clock (cycle_of rs) (length rs)

  test_sound : sound rs q ≡ true → SoundAt rs q
  unfolding sound jobs_fit job_fits
  test_sound h =
      let rest : (jobs_fit rs q.jobs && eqb tight 0) ≡ true = and_right ticking (jobs_fit rs q.jobs && eqb tight 0) h in
      let none : tight ≡ 0 = eqb-true tight 0 (and_right (jobs_fit rs q.jobs) (eqb tight 0) rest) in
      record {
        clock = ltb-true q.clock (cycle_of rs) (and_left ticking (jobs_fit rs q.jobs && eqb tight 0) h);
        jobs = λ i row.
            test_state _ _ _ _ (job_at q.jobs i).state (every_at fits (length rs) (and_left (jobs_fit rs q.jobs) (eqb tight 0) rest) i row);
        enough = λ i s l. never (short_lacks i s l) (tight_none (ends rs) (claims_of rs q) q.clock (cycle_of rs) (length rs) none i l.row);
      }

  sound_test : SoundAt rs q → sound rs q ≡ true
  unfolding sound jobs_fit job_fits
  sound_test s =
      and_both ticking (jobs_fit rs q.jobs && eqb tight 0) (lt-ltb q.clock (cycle_of rs) s.clock)
      (and_both (jobs_fit rs q.jobs) (eqb tight 0) (every_if fits (length rs) (λ i row. state_test _ _ _ _ (job_at q.jobs i).state (s.jobs i row)))
      (eq-eqb tight 0
      (none_tight (ends rs) (claims_of rs q) q.clock (cycle_of rs) (length rs)
      (λ i row. false_if (lacking i) (λ h. let r = lacks_short i row h in s.enough i r.0 r.1)))))

  -- 'A record is sound when all of these hold'
  pub sound_exactly : (sound rs q ≡ true) ↔ SoundAt rs q
  sound_exactly = (test_sound, sound_test)

-- ---- refusals one after another
pub not_none : (f : Option Refusal) → (f ≡ None → ⊥) → accepted f ≡ false
not_none f h = false_if (accepted f) (λ z. h (accepted_none f z))

module _ {a b : Option Refusal} (A B : Option Refusal → Type 0) (first : (f : Option Refusal) → (a ≡ f) ↔ A f) (later : (f : Option Refusal) → (b ≡ f) ↔ B f) where
  chain_if : (f : Option Refusal) → Then A B f → or_else a b ≡ f
  unfolding or_else
  chain_if f (inl h) =
      let e : a ≡ f = (first f).1 h.0 in
      rw (e, not_none f h.1) refl
  chain_if f (inr h) = sym (passes a b ((first None).1 h.0)) ∙ (later f).1 h.1

  some_chain : (f : Option Refusal) × Then A B f
  some_chain =
      ⊎_elim (λ (z : accepted a ≡ true). (b, inr ((first None).0 (accepted_none a z), (later b).0 refl)))
      (λ (z : accepted a ≡ false). (a, inl ((first a).0 refl, λ e. never (ap accepted e) z))) (split (accepted a))

  pub chain : (f : Option Refusal) → (or_else a b ≡ f) ↔ Then A B f
  chain = exact (Then A B) chain_if some_chain

-- ---- at a record: 1 to 7, then 9
module _ (t : Table) (q : Record) where
  last : TableGives t None → record_refusal t q ≡ given (not (sound (used t) q)) NotSound
  unfolding record_refusal
  last g = sym (passes (table_refusal t) (given (not (sound (used t) q)) NotSound) ((table_gives t None).1 g))

  -- one of 1 to 7
  at_table : (f : Option Refusal) → accepted f ≡ false → TableGives t f → record_refusal t q ≡ f
  unfolding record_refusal or_else
  at_table f a g = rw ((table_gives t f).1 g, a)

  -- nothing gives the variants that have no clause here
  record_if : (f : Option Refusal) → RecordGives t q f → record_refusal t q ≡ f
  unfolding RecordGives
  record_if None g = last g.0 ∙ rw ((sound_exactly (used t) q).1 g.1) refl
  record_if (Some NotSound) g = last g.0 ∙ rw (false_if (sound (used t) q) (λ h. g.1 ((sound_exactly (used t) q).0 h))) refl
  record_if (Some Empty) g = at_table (Some Empty) refl g
  record_if (Some Many) g = at_table (Some Many) refl g
  record_if (Some (Zero k)) g = at_table (Some (Zero k)) refl g
  record_if (Some (Long k)) g = at_table (Some (Long k)) refl g
  record_if (Some (Order k)) g = at_table (Some (Order k)) refl g
  record_if (Some Cycle) g = at_table (Some Cycle) refl g
  record_if (Some (Tight k)) g = at_table (Some (Tight k)) refl g
  record_if (Some Room) g = elim g [ ]
  record_if (Some Report) g = elim g [ ]
  record_if (Some Stray) g = elim g [ ]
  record_if (Some Size) g = elim g [ ]
  record_if (Some Version) g = elim g [ ]
  record_if (Some Dosing) g = elim g [ ]
  record_if (Some Spans) g = elim g [ ]

  some_record : (f : Option Refusal) → TableGives t f → (f : Option Refusal) × RecordGives t q f
  unfolding RecordGives TableGives
  some_record None g =
      ⊎_elim (λ (h : sound (used t) q ≡ true). (None, (g, (sound_exactly (used t) q).0 h)))
      (λ (h : sound (used t) q ≡ false). (Some NotSound, (g, λ s. never ((sound_exactly (used t) q).1 s) h))) (split (sound (used t) q))
  some_record (Some Empty) g = (Some Empty, g)
  some_record (Some Many) g = (Some Many, g)
  some_record (Some (Zero k)) g = (Some (Zero k), g)
  some_record (Some (Long k)) g = (Some (Long k), g)
  some_record (Some (Order k)) g = (Some (Order k), g)
  some_record (Some Cycle) g = (Some Cycle, g)
  some_record (Some (Tight k)) g = (Some (Tight k), g)
  some_record (Some Room) g = elim g [ ]
  some_record (Some NotSound) g = elim g [ ]
  some_record (Some Report) g = elim g [ ]
  some_record (Some Stray) g = elim g [ ]
  some_record (Some Size) g = elim g [ ]
  some_record (Some Version) g = elim g [ ]
  some_record (Some Dosing) g = elim g [ ]
  some_record (Some Spans) g = elim g [ ]

  pub record_gives : (f : Option Refusal) → (record_refusal t q ≡ f) ↔ RecordGives t q f
  record_gives = exact (RecordGives t q) record_if (some_record (table_refusal t) ((table_gives t (table_refusal t)).0 refl))

-- ---- a report: 10 before 11
ran_test : (w : Work) → RanPrimary w → ran_primary w ≡ true
ran_test w r = ap ran_primary r.1

not_ran : (w : Work) → (RanPrimary w → ⊥) → ran_primary w ≡ false
not_ran w h = false_if (ran_primary w) (go w h)
  where
    go : (w : Work) → (RanPrimary w → ⊥) → ran_primary w ≡ true → ⊥
    go idle h e = never e refl
    go (primary k) h e = h (k, refl)
    go (alternate k) h e = never e refl

module _ (w : Work) where
  -- one that ends a primary
  abbrev Ends : ℕ → Type 0
  Ends rep = (rep ≡ 1) ⊎ (rep ≡ 2)

  report_ends : (rep : ℕ) → Ends rep → report_refusal w rep ≡ given (not (ran_primary w)) Stray
  unfolding report_refusal or_else
  report_ends rep (inl e) = rw e refl
  report_ends rep (inr e) = rw e refl

  report_if : (rep : ℕ) (f : Option Refusal) → ReportGives w rep f → report_refusal w rep ≡ f
  unfolding ReportGives report_refusal or_else
  report_if rep None (inl e) = rw e refl
  report_if rep None (inr h) = report_ends rep h.0 ∙ rw (ran_test w h.1) refl
  report_if rep (Some Report) g = rw (lt-ltb 2 rep g) refl
  report_if rep (Some Stray) g = report_ends rep g.0 ∙ rw (not_ran w g.1) refl
  report_if rep (Some Empty) g = elim g [ ]
  report_if rep (Some Many) g = elim g [ ]
  report_if rep (Some (Zero _)) g = elim g [ ]
  report_if rep (Some (Long _)) g = elim g [ ]
  report_if rep (Some (Order _)) g = elim g [ ]
  report_if rep (Some Cycle) g = elim g [ ]
  report_if rep (Some (Tight _)) g = elim g [ ]
  report_if rep (Some Room) g = elim g [ ]
  report_if rep (Some NotSound) g = elim g [ ]
  report_if rep (Some Size) g = elim g [ ]
  report_if rep (Some Version) g = elim g [ ]
  report_if rep (Some Dosing) g = elim g [ ]
  report_if rep (Some Spans) g = elim g [ ]

  some_end : (rep : ℕ) → Ends rep → (w' : Work) → w ≡ w' → (f : Option Refusal) × ReportGives w rep f
  unfolding ReportGives
  some_end rep e idle d = (Some Stray, (e, λ r. never (ran_test w r) (ap ran_primary d)))
  some_end rep e (primary k) d = (None, inr (e, (k, d)))
  some_end rep e (alternate k) d = (Some Stray, (e, λ r. never (ran_test w r) (ap ran_primary d)))

  some_report : (rep : ℕ) → (f : Option Refusal) × ReportGives w rep f
  unfolding ReportGives
  some_report zero = (None, inl refl)
  some_report (suc zero) = some_end 1 (inl refl) w refl
  some_report (suc (suc zero)) = some_end 2 (inr refl) w refl
  some_report (suc (suc (suc n))) = (Some Report, omega arith)

  pub report_gives : (rep : ℕ) (f : Option Refusal) → (report_refusal w rep ≡ f) ↔ ReportGives w rep f
  report_gives rep = exact (ReportGives w rep) (report_if rep) (some_report rep)

-- ---- one slot: 1 to 7, 9, then 10 before 11
pub slot_gives : (t : Table) (q : Record) (rep : ℕ) (f : Option Refusal) → ((stepped_by t q rep).refusal ≡ f) ↔ SlotGives t q rep f
unfolding stepped_by slot_under SlotGives
slot_gives t q rep = chain (RecordGives t q) (ReportGives (what (used t) q) rep) (record_gives t q) (report_gives (what (used t) q) rep)

-- ---- a fresh start: 1 to 7
pub fresh_gives : (t : Table) (f : Option Refusal) → ((started_for t).refusal ≡ f) ↔ TableGives t f
unfolding started_for
fresh_gives t f = table_gives t f
