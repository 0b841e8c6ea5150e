-- A pass: what holds before the first report, and what the loop over the chunks keeps.
-- Assumes nothing.
use Rattle.std.specs.Prelude.{None}
use mathlib.Core.Path.{◌≡◌, refl, sym, ap, ◌∙◌, subst}
use mathlib.Core.List.{List, [], ◌++◌}
use Prim.Native.Nat.{ℕ, zero, suc, ◌≤◌, min}
use native.Mathlib.Omega.{arith}
use lib.ListN.{length, get_or, drop, replicate, length-append, length-replicate, get_or-replicate, get_or-append}
use Rattle.table.specs.declared.Row.{Row}
use Rattle.table.specs.declared.Table.{Table}
use Rattle.table.specs.Rows.{used, row_at}
use Rattle.reserve.specs.Check.{table_refusal}
use Rattle.slots.specs.declared.Record.{Record}
use Rattle.slots.specs.Records.{fresh_record}
use Rattle.slots.specs.OneSlot.{Work}
use Rattle.slots.specs.Reports.{Outcome, run_of}
use Rattle.slots.specs.History.{reported}
use Rattle.slots.proofs.RunFacts.{run_none}
use Rattle.dosing.specs.Jobs.{any, by_primary, by_alternate, fell}
use Rattle.dosing.specs.Bags.{mark_of, bag_mark}
use Rattle.dosing.specs.Turns.{start_of}
use Rattle.dosing.proofs.JobWindows.{start_le}
use Rattle.dosing.proofs.Due.{due_none}
use Rattle.bagreport.specs.declared.pass.Tale.{Tale}
use Rattle.bagreport.specs.Answers.{works_of}
use Rattle.bagreport.specs.declared.told.Open.{Open}
use Rattle.bagreport.specs.Pairs.{bags, start_at, end_at}
use Rattle.bagreport.specs.Turns.{no_open, open_from, no_counts, counts_to, Ordered, Past, Bagged, Beyond, RunTo, no_tale, TaleAt}
use Rattle.bagreport.proofs.JobCounted.{open_new}

-- ---- the reports
pub run_start : {t : Table} (reps : List ℕ) → table_refusal t ≡ None → RunTo t reps 0 (fresh_record t)
run_start {t} reps z =
    let e : run_of (used t) (fresh_record t) [] ≡ record { refusal = None; next = fresh_record t; log = [] } = run_none (used t) (fresh_record t) in
    record {
      table = z;
      within = omega arith;
      whole = ap (λ (o : Outcome). o.refusal) e;
      next = sym (ap (λ (o : Outcome). o.next) e);
    }

-- ---- what has been told before the first slot
-- the same value at every place
all_same : {A : Type 0} (n i : ℕ) (a : A) → get_or (replicate n a) i a ≡ a
all_same zero i a = refl
all_same (suc n) zero a = refl
all_same (suc n) (suc i) a = all_same n i a

-- before slot 0 there is none
open_none : (works : ℕ → Work) (reports : ℕ → ℕ) (k : ℕ) (r : Row) (s : ℕ) → s ≡ 0 → no_open ≡ open_from works reports k r s 0
open_none works reports k r s z = sym (ap (λ (x : ℕ). open_from works reports k r x 0) z ∙ open_new works reports k r 0)

start_none : (r : Row) → start_of r 0 ≡ 0
start_none r = omega (arith, start_le r 0)

counts_none : (t : Table) (reps : List ℕ) (k : ℕ) → no_counts ≡ counts_to t reps k 0
unfolding counts_to
counts_none t reps k =
    rw (
      due_none (used t) (works_of t reps) (reported reps) k any 0 0 (omega arith),
      due_none (used t) (works_of t reps) (reported reps) k by_primary 0 0 (omega arith),
      due_none (used t) (works_of t reps) (reported reps) k fell 0 0 (omega arith),
    ) refl

pub past_start : (spans : List ℕ) (s : ℕ) → Past spans 0 s
past_start spans s = record { few = omega arith; ended = λ c l. absurd (omega arith) }

pub tale_start : (t : Table) (reps spans : List ℕ) → TaleAt t reps spans 0 no_tale
tale_start t reps spans =
    record {
      opens = record {
        sixteen = refl;
        each = λ k l. all_same 16 k no_open ∙ open_none (works_of t reps) (reported reps) k (row_at (used t) k) (start_of (row_at (used t) k) 0) (start_none (row_at (used t) k));
        few = λ k. omega (arith, ap (λ (o : Open). o.units) (all_same 16 k no_open));
      };
      counts = record {
        sixteen = refl;
        each = λ k l. all_same 16 k no_counts ∙ counts_none t reps k;
        past = λ k l. all_same 16 k no_counts;
      };
      bag = past_start spans 0;
    }

-- ---- the bags' bytes
-- by slot 0 no deadline has come
mark_none : (t : Table) (reps : List ℕ) (k s e : ℕ) → 0 ≡ bag_mark (used t) (works_of t reps) (reported reps) k s (min e 0)
unfolding bag_mark mark_of
mark_none t reps k s e =
    rw (
      due_none (used t) (works_of t reps) (reported reps) k by_primary s (min e 0) (omega arith),
      due_none (used t) (works_of t reps) (reported reps) k by_alternate s (min e 0) (omega arith),
    ) refl

pub bagged_start : (t : Table) (reps : List ℕ) (k : ℕ) (spans old : List ℕ) → bags spans ≤ length old → Bagged t reps k spans 0 (replicate (bags spans) 0 ++ drop (bags spans) old)
bagged_start t reps k spans old l =
    record {
      room = omega (arith, length-append zeros (drop (bags spans) old), long);
      each = λ c u. get_or-append zeros (drop (bags spans) old) 0 c (omega (arith, long)) ∙ get_or-replicate (bags spans) c 0 0 u ∙ mark_none t reps k (start_at spans c) (end_at spans c);
    }
  where
    zeros : List ℕ
    zeros = replicate (bags spans) 0

    long : length zeros ≡ bags spans
    long = length-replicate (bags spans) 0

-- without spans
pub bagged_none : (t : Table) (reps : List ℕ) (k at : ℕ) → Bagged t reps k [] at []
bagged_none t reps k at = record { room = omega arith; each = λ c l. absurd (omega arith) }

pub ordered_none : Ordered []
ordered_none = record { forward = λ c l. absurd (omega arith); apart = λ c d l u. absurd (omega arith) }

-- ---- bytes past the pairs
pub beyond_refl : (spans old : List ℕ) → Beyond spans old old
beyond_refl spans old = record { size = refl; stay = λ c l. refl }

pub beyond_trans : {spans old mid new : List ℕ} → Beyond spans old mid → Beyond spans mid new → Beyond spans old new
beyond_trans f g = record { size = g.size ∙ f.size; stay = λ c l. g.stay c l ∙ f.stay c l }

-- ---- the loop, whose last step may go past the reports: those before `at` have been run and told of, with a log and a buffer of its own; the bags' bytes held `old`
pub record PassedTo (t : Table) (reps : List ℕ) (place : ℕ) (spans old : List ℕ) (at : ℕ) (q : Record) (tale : Tale) (marks log buffer : List ℕ) : Type 0 where
  pub run : RunTo t reps (min at (length reps)) q
  pub told : TaleAt t reps spans (min at (length reps)) tale
  pub bags : Bagged t reps place spans (min at (length reps)) marks
  pub past : Beyond spans old marks
  pub log_long : length log ≡ 262144
  pub buffer_long : length buffer ≡ 4096

pub passed_start : {t : Table} {reps : List ℕ} {place : ℕ} {spans marks log buffer : List ℕ} {q : Record} {tale : Tale} → table_refusal t ≡ None → q ≡ fresh_record t → tale ≡ no_tale
    → Bagged t reps place spans 0 marks → length log ≡ 262144 → length buffer ≡ 4096 → PassedTo t reps place spans marks 0 q tale marks log buffer
passed_start {t} {reps} {place} {spans} {marks} {q = q} {tale = tale} z e f b m n =
    let none : 0 ≡ min 0 (length reps) = omega arith in
    record {
      run = subst (λ (x : ℕ). RunTo t reps x q) none (subst (RunTo t reps 0) (sym e) (run_start reps z));
      told = subst (λ (x : ℕ). TaleAt t reps spans x tale) none (subst (TaleAt t reps spans 0) (sym f) (tale_start t reps spans));
      bags = subst (λ (x : ℕ). Bagged t reps place spans x marks) none b;
      past = beyond_refl spans marks;
      log_long = m;
      buffer_long = n;
    }
