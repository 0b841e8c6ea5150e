-- What a run gives, slot by slot: how many slots it takes, the record after each slot, and what its log tells. Where it stops stands in ListsWhen.
-- Assumes nothing.
use Rattle.std.specs.Prelude.{None}
use mathlib.Core.Path.{◌≡◌, refl, sym, ap, ◌∙◌, subst}
use mathlib.Core.Logic.{⊎_elim}
use mathlib.Core.Bool.{true, false}
use mathlib.Core.List.{List, [], ◌∷◌}
use Prim.Native.Nat.{ℕ, zero, suc, ◌+◌, ◌-◌, ◌≤◌, ◌<◌}
use native.Mathlib.Omega.{arith}
use lib.ListN.{length, get_or}
use borrow.Author.Tests.{eqb-false, lt-ltb, le-ltb}
use lib.Dec.{eqb}
use Rattle.refusal.specs.Order.{accepted}
use Rattle.table.specs.declared.Row.{Row}
use Rattle.table.specs.Rows.{cycle_of}
use Rattle.rule.proofs.Tests.{split, never}
use Rattle.slots.specs.declared.Record.{Record}
use Rattle.slots.specs.OneSlot.{Work, idle, primary, alternate, what, byte_of, next_clock, step_by, step_of}
use Rattle.slots.specs.Reports.{report_refusal, Outcome, stopped, onto, run_of, rec_after}
use Rattle.slots.specs.History.{work_of, logged, reported}
use Rattle.slots.specs.Allowed.{Allowed}
use Rattle.slots.proofs.SoundRecord.{Usable, Sound}
use Rattle.slots.proofs.SlotActs.{allowed_row}
use Rattle.slots.proofs.StaysSound.{what_allowed, step_sound}

-- ---- the run, by its first report
module _ (rs : List Row) (q : Record) where
  pub run_none : run_of rs q [] ≡ stopped None q
  unfolding run_of
  run_none = refl

  module _ (rep : ℕ) (reps : List ℕ) where
    pub run_on : accepted (report_refusal (what rs q) rep) ≡ true → run_of rs q (rep ∷ reps) ≡ onto (byte_of (what rs q)) (run_of rs (step_of rs q rep) reps)
    unfolding run_of
    run_on h = rw (h, run_of)

    pub run_stops : accepted (report_refusal (what rs q) rep) ≡ false → run_of rs q (rep ∷ reps) ≡ stopped (report_refusal (what rs q) rep) q
    unfolding run_of
    run_stops h = rw (h, run_of)

-- ---- the record after t slots, each of which runs what the three points say
pub after_none : (rs : List Row) (q : Record) (reps : List ℕ) → rec_after rs q reps 0 ≡ q
unfolding rec_after
after_none rs q reps = refl

pub after_more : (rs : List Row) (q : Record) (reps : List ℕ) (t : ℕ) → rec_after rs q reps (suc t) ≡ step_of rs (rec_after rs q reps t) (reported reps t)
unfolding rec_after
after_more rs q reps t = refl

-- the first slot apart
pub after_first : (rs : List Row) (q : Record) (rep : ℕ) (reps : List ℕ) (t : ℕ) → rec_after rs q (rep ∷ reps) (suc t) ≡ rec_after rs (step_of rs q rep) reps t
unfolding rec_after
after_first rs q rep reps zero = refl
after_first rs q rep reps (suc t) = ap (λ (p : Record). step_of rs p (reported reps t)) (after_first rs q rep reps t)

-- ---- a run and those records
module _ (rs : List Row) where
  record Goes (q : Record) (reps : List ℕ) (o : Outcome) : Type 0 where
    short : length o.log ≤ length reps
    whole : o.refusal ≡ None → length o.log ≡ length reps
    last : o.next ≡ rec_after rs q reps (length o.log)
    bytes : (t : ℕ) → t < length o.log → get_or o.log t 0 ≡ byte_of (what rs (rec_after rs q reps t))

  goes_on : (q : Record) (rep : ℕ) (reps : List ℕ) (o : Outcome) → Goes (step_of rs q rep) reps o → Goes q (rep ∷ reps) (onto (byte_of (what rs q)) o)
  goes_on q rep reps o g =
      record {
        short = omega (arith, g.short);
        whole = λ z. omega (arith, g.whole z);
        last = g.last ∙ sym (after_first rs q rep reps (length o.log));
        bytes = bytes;
      }
    where
      bytes : (t : ℕ) → t < suc (length o.log) → get_or (byte_of (what rs q) ∷ o.log) t 0 ≡ byte_of (what rs (rec_after rs q (rep ∷ reps) t))
      bytes zero l = rw (after_none rs q (rep ∷ reps))
      bytes (suc t) l = rw (after_first rs q rep reps t) (g.bytes t (omega arith))

  goes : (q : Record) (reps : List ℕ) → Goes q reps (run_of rs q reps)
  goes q [] =
      rw (run_none rs q)
      (record {
        short = omega arith;
        whole = λ z. refl;
        last = sym (after_none rs q []);
        bytes = λ t l. absurd (omega arith);
      })
  goes q (rep ∷ reps) =
      let more : Goes (step_of rs q rep) reps (run_of rs (step_of rs q rep) reps) = goes (step_of rs q rep) reps in
      ⊎_elim (λ (h : accepted (report_refusal (what rs q) rep) ≡ true). rw (run_on rs q rep reps h) (goes_on q rep reps (run_of rs (step_of rs q rep) reps) more))
      (λ (h : accepted (report_refusal (what rs q) rep) ≡ false).
      rw (run_stops rs q rep reps h)
      (record {
        short = omega arith;
        whole = λ z. never (ap accepted z) h;
        last = sym (after_none rs q (rep ∷ reps));
        bytes = λ t l. absurd (omega arith);
      }))
      (split (accepted (report_refusal (what rs q) rep)))

  module _ (q : Record) (reps : List ℕ) where
    -- a run takes no more slots than there are reports, and all of them where none is refused
    pub run_short : length (run_of rs q reps).log ≤ length reps
    run_short = (goes q reps).short

    pub run_whole : (run_of rs q reps).refusal ≡ None → length (run_of rs q reps).log ≡ length reps
    run_whole h = (goes q reps).whole h

    -- the record that it gives is that after its slots, also where it was stopped
    pub run_next : (run_of rs q reps).next ≡ rec_after rs q reps (length (run_of rs q reps).log)
    run_next = (goes q reps).last

    pub log_bytes : (t : ℕ) → t < length (run_of rs q reps).log → get_or (run_of rs q reps).log t 0 ≡ byte_of (what rs (rec_after rs q reps t))
    log_bytes t l = (goes q reps).bytes t l

-- ---- the clock stays in the cycle
clock_ticks : (L c : ℕ) → c < L → next_clock L c < L
unfolding next_clock
clock_ticks L c l =
    ⊎_elim (λ (e : eqb (c + 1) L ≡ true). rw e (omega arith))
    (λ (e : eqb (c + 1) L ≡ false). let ne : c + 1 ≡ L → ⊥ = eqb-false (c + 1) L e in rw e (omega (arith, ne))) (split (eqb (c + 1) L))

module _ (rs : List Row) (q : Record) (reps : List ℕ) (l : q.clock < cycle_of rs) where
  after_ticks : (t : ℕ) → (rec_after rs q reps t).clock < cycle_of rs
  unfolding step_of step_by
  after_ticks zero = rw (after_none rs q reps) l
  after_ticks (suc t) = rw (after_more rs q reps t) (step_ticks (rec_after rs q reps t) (after_ticks t))
    where
      step_ticks : (p : Record) → p.clock < cycle_of rs → (step_of rs p (reported reps t)).clock < cycle_of rs
      step_ticks p u = clock_ticks (cycle_of rs) p.clock u

  pub next_ticks : (run_of rs q reps).next.clock < cycle_of rs
  next_ticks = rw (run_next rs q reps) (after_ticks (length (run_of rs q reps).log))

-- ---- from a sound record each slot leaves a sound one, and so does the run
module _ (rs : List Row) (ok : Usable rs) (q : Record) (s : Sound rs q) (reps : List ℕ) where
  pub after_sound : (t : ℕ) → Sound rs (rec_after rs q reps t)
  after_sound zero = rw (after_none rs q reps) s
  after_sound (suc t) = rw (after_more rs q reps t) (step_sound rs ok (rec_after rs q reps t) (reported reps t) (after_sound t))

  pub next_sound : Sound rs (run_of rs q reps).next
  next_sound = rw (run_next rs q reps) (after_sound (length (run_of rs q reps).log))

-- ---- the log's byte tells the work
pub work_byte : (w : Work) → ((k : ℕ) → w ≡ primary k → k < 16) → work_of (byte_of w) ≡ w
unfolding work_of byte_of
work_byte idle h = refl
work_byte (primary k) h = rw (lt-ltb k 16 (h k refl))
work_byte (alternate k) h =
    let e : 17 + k ≡ suc (16 + k) = omega arith in
    let d : 16 + k - 16 ≡ k = omega arith in
    rw (e, le-ltb (16 + k) 16 (omega arith), work_of) (ap alternate d)

-- and the byte of what runs tells that
pub what_byte : (rs : List Row) → length rs ≤ 16 → (q : Record) → work_of (byte_of (what rs q)) ≡ what rs q
what_byte rs few q = work_byte (what rs q) (λ k e. omega (arith, few, allowed_row rs q (primary k) (subst (Allowed rs q) e (what_allowed rs q))))

pub log_tells : (rs : List Row) → length rs ≤ 16 → (q : Record) (reps : List ℕ) (t : ℕ) → t < length (run_of rs q reps).log
    → logged (run_of rs q reps).log t ≡ what rs (rec_after rs q reps t)
log_tells rs few q reps t l = ap work_of (log_bytes rs q reps t l) ∙ what_byte rs few (rec_after rs q reps t)
