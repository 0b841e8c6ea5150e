-- What the bag report promises, through the contract of `bagreport::report` as the check reads it from the source: of whatever answer and lent bytes meet it. The contract asks
-- nothing of a caller, and the check proves that the call ends. docs/PROMISES.md names these theorems.
-- Assumes nothing.
use Rattle.std.specs.Prelude.{Option, Some, None}
use mathlib.Core.Path.{◌≡◌, refl, sym, ap, ap₂, ◌∙◌, subst}
use mathlib.Core.Logic.{◌≢◌, ◌⊎◌, inl, inr, ◌↔◌, ⊎_elim}
use mathlib.Core.Bool.{Bool, true, false, cond}
use mathlib.Core.List.{List}
use Prim.Native.Nat.{ℕ, ◌-◌, ◌^◌, ◌≤◌, ◌<◌}
use native.Mathlib.Omega.{arith}
use borrow.Author.Tests.{eqb-true, eq-eqb, ne_eqb}
use lib.Dec.{eqb}
use lib.ListN.{length, get_or, drop, replicate, length-replicate, get_or-replicate, get_or-append}
use Rattle.refusal.specs.declared.Refusal.{Refusal}
use Rattle.refusal.specs.declared.Refusal.TheVariants.{Spans}
use Rattle.table.specs.declared.Row.{Row}
use Rattle.table.specs.declared.Table.{Table}
use Rattle.table.specs.Windows.{closes}
use Rattle.table.proofs.Check.{used_count}
use Rattle.rule.proofs.Tests.{side, never}
use Rattle.reserve.specs.Exactly.{TableGives}
use Rattle.reserve.proofs.Verdict.{table_accepted}
use Rattle.slots.specs.declared.Record.{Record}
use Rattle.slots.specs.declared.Started.{Started}
use Rattle.slots.specs.Records.{fresh_record, started_for}
use Rattle.slots.specs.Reports.{Outcome, run_of}
use Rattle.slots.specs.History.{work_of, logged}
use Rattle.slots.specs.Exactly.{ReportGives, AcceptedTo, ListStops}
use Rattle.slots.proofs.RunFacts.{run_whole}
use Rattle.share.specs.declared.Share.{Share}
use Rattle.share.specs.Share.{share_number, share_of}
use Rattle.runs.proofs.Calls.{FreshCall, fresh_table, RunCall, run_from, run_table, run_reports, old_log, new_log}
use Rattle.runs.proofs.RunAnswers.{Leaves, run_answers, run_same, accepted_enters}
use Rattle.dosing.specs.Jobs.{by_primary, fell, any, ending_at, jobs_due}
use Rattle.dosing.specs.Bags.{bag_mark}
use Rattle.dosing.specs.Meaning.{Modelled, Fixed, FellIn, NoneBag, ModelledBag, FixedBag, MixedBag, Tells, tally}
use Rattle.dosing.proofs.Due.{due_few, due_divisor}
use Rattle.dosing.proofs.JobKinds.{FromFresh, by_primary_lem, fell_is, no_third_way, not_both}
use Rattle.dosing.proofs.Meaning.{modelled_count, all_count, fell_count}
use Rattle.bagreport.specs.declared.BagReport.{BagReport}
use Rattle.bagreport.specs.Pairs.{bags, start_at, end_at}
use Rattle.bagreport.specs.Answers.{bag_refusal, row_share, sixteen_shares, no_share, report_of}
use Rattle.bagreport.specs.Exactly.{FewBytes, OutsideTable, BagGives, many}
use Rattle.bagreport.proofs.SharesFilled.{sixteen_long, sixteen_row, sixteen_past}
use Rattle.bagreport.proofs.ExactlyWhen.{report_gives}
use Rattle.bagreport.proofs.Answered as answered
use Rattle.bagreport.proofs.ReportCalls.{ReportCall, bag_table, bag_reports, bag_row, bag_spans, old_bytes, new_bytes, bag_byte, share_at, bag_rows, bag_works, bag_heard, dosing, OfRow, OfBag, bag_row_at, bag_slots}

module _ (c : ReportCall) where
  abbrev t : Table
  t = bag_table c

  abbrev reps : List ℕ
  reps = bag_reports c

  abbrev row : ℕ
  row = bag_row c

  abbrev spans : List ℕ
  spans = bag_spans c

  abbrev old : List ℕ
  old = old_bytes c

  gives : c.answer.refusal ≡ bag_refusal t reps row spans old
  unfolding report_of
  gives = ap (λ (r : BagReport). r.refusal) c.meets.0

  -- ---- the refusals: 1 to 7, 8, then, slot by slot, 10 before 11, 14, 15, each exactly where the documents say
  pub report_refuses : (f : Option Refusal) → (c.answer.refusal ≡ f) ↔ BagGives (bag_table c) (bag_reports c) (bag_row c) (bag_spans c) (old_bytes c) f
  report_refuses f = subst (λ (g : Option Refusal). (g ≡ f) ↔ BagGives t reps row spans old f) (sym gives) (report_gives t reps row spans old f)

  -- 'no refusal here writes anything'
  pub refused_writes_nothing : c.answer.refusal ≢ None → new_bytes c ≡ old_bytes c
  refused_writes_nothing h = c.meets.1 ∙ answered.refused_bytes t reps row spans old (λ e. h (gives ∙ e))

  -- 'Beside a refusal, every figure not named here is 0'
  pub refused_shows_nothing : c.answer.refusal ≢ None → c.answer.shares ≡ replicate 16 no_share
  refused_shows_nothing h = ap (λ (r : BagReport). r.shares) c.meets.0 ∙ answered.refused_shares t reps row spans old (λ e. h (gives ∙ e))

  -- ---- 'one lent byte for each whole pair': bytes past the pairs stay
  pub bytes_past_stay : (b : ℕ) → bags (bag_spans c) ≤ b → get_or (new_bytes c) b 0 ≡ get_or (old_bytes c) b 0
  bytes_past_stay b l = ap (λ (s : List ℕ). get_or s b 0) c.meets.1 ∙ answered.bytes_past t reps row spans old b l

  pub bytes_length : length (new_bytes c) ≡ length (old_bytes c)
  bytes_length = ap length c.meets.1 ∙ answered.bytes_length t reps row spans old

  -- ---- accepted
  module _ (ok : c.answer.refusal ≡ None) where
    none : bag_refusal t reps row spans old ≡ None
    none = sym gives ∙ ok

    history : FromFresh (bag_rows c) (bag_slots c) (bag_works c) (bag_heard c)
    history = answered.history t reps row spans old none

    -- 'one dosing row' is a row of the table, which has its sixteen places
    pub dosing_row : length (bag_table c).rows ≡ 16 → dosing c < length (bag_rows c)
    dosing_row full =
        let g = answered.admits t reps row spans old none in
        omega (arith, g.one, g.last, used_count t full (table_accepted t g.table).few)

    -- each job whose deadline has come went one of the two ways, and not both
    pub job_one_way : (k : ℕ) → k < length (bag_rows c) → (j : ℕ) → 1 ≤ j → closes (bag_row_at c k) j ≤ bag_slots c
        → (OfRow c k Modelled j ⊎ OfRow c k Fixed j) × (OfRow c k Modelled j → OfRow c k Fixed j → ⊥)
    job_one_way k l j one due = (no_third_way history k l j one due, not_both history k l j one due)

    -- ---- what each bag's byte says
    module _ (b : ℕ) (bag : b < bags (bag_spans c)) where
      byte_is : bag_byte c b ≡ bag_mark (bag_rows c) (bag_works c) (bag_heard c) (dosing c) (start_at spans b) (end_at spans b)
      byte_is = ap (λ (s : List ℕ). get_or s b 0) c.meets.1 ∙ answered.byte_at t reps row spans old none b bag

      ran : end_at spans b ≤ length reps
      ran = answered.bag_ends t reps row spans old none b bag

      -- "no job 'none' (0)"
      pub byte_none : (bag_byte c b ≡ 0) ↔ OfBag c b NoneBag
      byte_none = rw byte_is (answered.mark_none history (dosing c) (start_at spans b) (end_at spans b) ran)

      -- "all by primary is 'modelled' (1)"
      pub byte_modelled : (bag_byte c b ≡ 1) ↔ OfBag c b ModelledBag
      byte_modelled = rw byte_is (answered.mark_modelled history (dosing c) (start_at spans b) (end_at spans b) ran)

      -- "all by alternate 'fixed' (2)"
      pub byte_fixed : (bag_byte c b ≡ 2) ↔ OfBag c b FixedBag
      byte_fixed = rw byte_is (answered.mark_fixed history (dosing c) (start_at spans b) (end_at spans b) ran)

      -- "both kinds 'mixed' (3)"
      pub byte_mixed : (bag_byte c b ≡ 3) ↔ OfBag c b MixedBag
      byte_mixed = rw byte_is (answered.mark_mixed history (dosing c) (start_at spans b) (end_at spans b) ran)

      -- and there is no other byte
      pub byte_of_four : bag_byte c b ≤ 3
      byte_of_four = rw byte_is (answered.mark_of_four _ _ _ (dosing c) (start_at spans b) (end_at spans b))

    -- ---- the shares
    shares_are : c.answer.shares ≡ sixteen_shares t reps
    shares_are = ap (λ (r : BagReport). r.shares) c.meets.0 ∙ answered.shares_are t reps row spans old none

    few : length (bag_rows c) ≤ 16
    few = history.usable.few

    pub sixteen_places : length c.answer.shares ≡ 16
    sixteen_places = ap length shares_are ∙ sixteen_long t reps few

    -- 'and each place past the last row'
    pub places_past : (k : ℕ) → length (bag_rows c) ≤ k → k < 16 → share_at c k ≡ share_of 0 0
    places_past k l u = ap (λ (xs : List Share). get_or xs k no_share) shares_are ∙ sixteen_past t reps k l u

    -- 'Among each row's jobs whose deadline has come'
    module _ (k : ℕ) (l : k < length (bag_rows c)) where
      share_is : share_at c k ≡ row_share t reps k
      share_is = ap (λ (xs : List Share). get_or xs k no_share) shares_are ∙ sixteen_row t reps k l

      done_is : (share_at c k).done ≡ jobs_due (bag_rows c) (bag_works c) (bag_heard c) by_primary k 0 (length reps)
      unfolding row_share share_of
      done_is = ap (λ (s : Share). s.done) share_is

      of_is : (share_at c k).of ≡ jobs_due (bag_rows c) (bag_works c) (bag_heard c) any k 0 (length reps) - jobs_due (bag_rows c) (bag_works c) (bag_heard c) fell k 0 (length reps)
      unfolding row_share share_of
      of_is = ap (λ (s : Share). s.of) share_is

      -- 'primaries done': as many as m tells, where m tells the jobs that are modelled; there is such an m
      pub share_done : (m : ℕ → Bool) → Tells (bag_row_at c k) (bag_slots c) m (OfRow c k Modelled)
          → (share_at c k).done ≡ tally (bag_row_at c k) (bag_slots c) m
      share_done m says = done_is ∙ modelled_count history k l m says

      pub modelled_told : (m : ℕ → Bool) × Tells (bag_row_at c k) (bag_slots c) m (OfRow c k Modelled)
      modelled_told = (λ j. by_primary (ending_at (bag_rows c) (bag_works c) (bag_heard c) k j), by_primary_lem history k l)

      -- 'over all less those reported failed or overrun'
      pub share_of_lem : (m : ℕ → Bool) → Tells (bag_row_at c k) (bag_slots c) m (OfRow c k FellIn)
          → (share_at c k).of ≡ tally (bag_row_at c k) (bag_slots c) (λ j. true) - tally (bag_row_at c k) (bag_slots c) m
      share_of_lem m says = of_is ∙ ap₂ (λ (x y : ℕ). x - y) (all_count history k l) (fell_count history k l m says)

      pub fell_told : (m : ℕ → Bool) × Tells (bag_row_at c k) (bag_slots c) m (OfRow c k FellIn)
      fell_told = (λ j. fell (ending_at (bag_rows c) (bag_works c) (bag_heard c) k j), fell_is history k l)

      -- 'two whole numbers below 2^32', and no more are done than there are
      pub share_whole : ((share_at c k).done ≤ (share_at c k).of) × ((share_at c k).of < 2 ^ 32)
      share_whole = (
        omega (arith, done_is, of_is, due_divisor (bag_rows c) (bag_works c) (bag_heard c) k 0 (length reps)),
        omega (arith, of_is, due_few (bag_rows c) (bag_works c) (bag_heard c) k any 0 (length reps), (answered.admits t reps row spans old none).slots),
      )

    -- at each place
    module _ (k : ℕ) (place : k < 16) where
      a_share : (done : ℕ) × ((of : ℕ) × (share_at c k ≡ share_of done of))
      unfolding row_share
      a_share = ⊎_elim (λ (l : k < length (bag_rows c)). (_, (_, share_is k l))) (λ (l : length (bag_rows c) ≤ k). (0, (0, places_past k l place))) (side k (length (bag_rows c)))

      -- 'divided once'
      pub share_number_lem : (share_at c k).share ≡ share_number (share_at c k).done (share_at c k).of
      unfolding share_of
      share_number_lem = rw a_share.1.1 refl

      -- 'A row with divisor 0 .. carries 16 beside a share of 0'; and no other mark is 16
      pub share_marked : ((share_at c k).mark ≡ 16) ↔ ((share_at c k).of ≡ 0)
      unfolding share_of
      share_marked = rw a_share.1.1 (go a_share.1.0 (eqb a_share.1.0 0) refl)
        where
          go : (of : ℕ) (b : Bool) → eqb of 0 ≡ b → (◌≡◌ {A = ℕ} (cond b 16 0) 16) ↔ (of ≡ 0)
          go of true e = (λ h. eqb-true of 0 e, λ h. refl)
          go of false e = (λ h. absurd (omega arith), λ h. never (eq-eqb of 0 h) e)

      pub share_unmarked : (share_at c k).of ≢ 0 → (share_at c k).mark ≡ 0
      unfolding share_of
      share_unmarked h = subst (λ (s : Share). s.of ≢ 0 → s.mark ≡ 0) (sym a_share.1.1) (λ n. rw (ne_eqb a_share.1.0 0 n) refl) h

      pub share_zero : (share_at c k).of ≡ 0 → (share_at c k).share ≡ no_share.share
      unfolding share_number
      share_zero e = share_number_lem ∙ rw (eq-eqb (share_at c k).of 0 e) refl

  -- ---- 15 'when there are more than 4,294,967,295 reports', where no earlier refusal applies: shown by proof alone, as no list so long is tried
  pub many_reports : TableGives (bag_table c) None → (FewBytes (bag_spans c) (old_bytes c) → ⊥) → ListStops (bag_rows c) (fresh_record (bag_table c)) (bag_reports c) None (bag_slots c)
      → (OutsideTable (bag_table c) (bag_row c) → ⊥) → 4294967295 < bag_slots c → c.answer.refusal ≡ Some Spans
  unfolding BagGives
  many_reports table room run inside l = (report_refuses (Some Spans)).1 (inr (table, inr (inr (room, refl), inr ((length reps, run), inr (inr (inside, refl), inl (many l, refl))))))

-- a list of any length can be run to its end: one whose every report is 0
pub zeros_run : (rs : List Row) (q : Record) (n : ℕ) → ListStops rs q (replicate n 0) None n
unfolding AcceptedTo ReportGives
zeros_run rs q n = record { accepted = λ s l. inl (get_or-replicate n s 0 0 l); stop = inl (refl, sym (length-replicate n 0)) }

-- ---- the history is the run's own: a call of `fresh` on the same table, and one of `Record::run` from the record that it gave, on the same table and reports, that is not refused
module _ (c : ReportCall) (f : FreshCall) (r : RunCall) (started : fresh_table f ≡ bag_table c) (from : run_from r ≡ f.answer.start) (table : run_table r ≡ bag_table c)
    (reports : run_reports r ≡ bag_reports c) (ok : r.answer.refusal ≡ None) where
  abbrev o : Outcome
  o = run_of (bag_rows c) (fresh_record (bag_table c)) (bag_reports c)

  from_fresh_lem : run_from r ≡ fresh_record (bag_table c)
  unfolding started_for
  from_fresh_lem = from ∙ ap (λ (s : Started). s.start) f.meets ∙ ap fresh_record started

  leaves : Leaves r o
  leaves = subst (Leaves r) (run_same r table from_fresh_lem reports) (run_answers r (accepted_enters r ok))

  -- what ran in each slot is what its log says
  pub same_history : (s : ℕ) → s < bag_slots c → bag_works c s ≡ logged (new_log r) s
  same_history s l =
      let whole : length o.log ≡ bag_slots c = run_whole (bag_rows c) (fresh_record (bag_table c)) (bag_reports c) (sym leaves.stop ∙ ok) in
      ap work_of (sym (get_or-append o.log (drop r.answer.slots (old_log r)) 0 s (omega arith)) ∙ ap (λ (log : List ℕ). get_or log s 0) (sym leaves.written))
