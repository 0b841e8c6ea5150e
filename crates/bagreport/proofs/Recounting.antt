-- A chunk's slots, told stretch by stretch: the loop of `tell`.
-- Assumes nothing.
use Rattle.std.specs.Prelude.{None}
use mathlib.Core.Path.{◌≡◌, refl, ap, ◌∙◌}
use mathlib.Core.Logic.{⊎_elim}
use mathlib.Core.Bool.{true, false}
use mathlib.Core.List.{List}
use Prim.Native.Nat.{ℕ, ◌+◌, ◌-◌, ◌^◌, ◌≤◌, ◌<◌}
use native.Mathlib.Omega.{arith}
use lib.ListN.{length, get_or}
use Rattle.table.specs.declared.Table.{Table}
use Rattle.table.specs.declared.Row.{Row}
use Rattle.table.specs.Rows.{used, row_at}
use Rattle.table.specs.Windows.{starts, window_end}
use Rattle.rule.proofs.Tests.{side}
use Rattle.reserve.specs.Check.{table_refusal}
use Rattle.slots.specs.History.{reported}
use Rattle.slots.proofs.SoundRecord.{table_usable}
use Rattle.dosing.specs.Jobs.{any, by_primary, fell}
use Rattle.dosing.proofs.Due.{due_few}
use Rattle.bagreport.specs.declared.told.Open.{Open}
use Rattle.bagreport.specs.declared.due.Counts.{Counts}
use Rattle.bagreport.specs.Answers.{works_of}
use Rattle.bagreport.specs.Turns.{no_open, Told, Logged, no_counts, counts_to, Counted, Ordered, Past, kind_of, Remarked, Bagged, Beyond}
use Rattle.bagreport.proofs.SlotsTold.{Along, along_end}
use Rattle.bagreport.proofs.Closing.{Countable, ClosedAt, Closing, closing_start, closing_end}
use Rattle.bagreport.proofs.StretchTold.{told_after, counted_after, ended_code}
use Rattle.bagreport.proofs.BagsMarked.{bagged_after, beyond_after}
use Rattle.bagreport.proofs.Passing.{beyond_trans}

-- fewer bytes of a log
pub logged_less : (t : Table) (reps : List ℕ) (base n : ℕ) (log : List ℕ) → Logged t reps base n log → (m : ℕ) → m ≤ n → Logged t reps base m log
logged_less t reps base n log h m l = record {
  room = omega (arith, h.room);
  listed = omega (arith, h.listed);
  bytes = λ i b. h.bytes i (omega arith);
  small = λ i b. h.small i (omega arith);
}

-- no count is over the slots that have passed
module _ (t : Table) (reps : List ℕ) (a : ℕ) (cs : List Counts) (counted : Counted t reps a cs) (s : ℕ) (later : a < s) (few : s < 2 ^ 64) where
  less : (f : Counts → ℕ) → ((k : ℕ) → f (counts_to t reps k a) ≤ a) → f no_counts ≡ 0 → (k : ℕ) → f (get_or cs k no_counts) < s
  less f most none k =
      ⊎_elim (λ (l : k < length (used t)). omega (arith, ap f (counted.each k l), most k))
      (λ (l : length (used t) ≤ k). omega (arith, ap f (counted.past k l), none))
      (side k (length (used t)))

  pub countable : Countable s cs
  unfolding counts_to
  countable = record {
    few = few;
    all = less (λ (c : Counts). c.all) (λ k. due_few (used t) (works_of t reps) (reported reps) k any 0 a) refl;
    done = less (λ (c : Counts). c.done) (λ k. due_few (used t) (works_of t reps) (reported reps) k by_primary 0 a) refl;
    fell = less (λ (c : Counts). c.fell) (λ k. due_few (used t) (works_of t reps) (reported reps) k fell 0 a) refl;
  }

-- the first i of n slots from slot `base` on are told; the lent bytes held `old` before them
pub record Recounting (t : Table) (reps log : List ℕ) (base n place : ℕ) (spans old : List ℕ) (os : List Open) (cs : List Counts) (bag i : ℕ) (marks : List ℕ) : Type 0 where
  pub accepted : table_refusal t ≡ None
  pub logged : Logged t reps base n log
  pub few : length reps < 2 ^ 63
  pub sixteen : length t.rows ≡ 16
  pub is_row : place < length (used t)
  pub ordered : Ordered spans
  pub within : i ≤ n
  pub opens : Told t reps (base + i) (base + i) os
  pub counts : Counted t reps (base + i) cs
  pub past : Past spans bag (base + i)
  pub bagged : Bagged t reps place spans (base + i) marks
  pub beyond : Beyond spans old marks

module _ {t : Table} {reps log : List ℕ} {base n place : ℕ} {spans old : List ℕ} {os : List Open} {cs : List Counts} {bag i : ℕ} {marks : List ℕ}
    (g : Recounting t reps log base n place spans old os cs bag i marks) where
  -- the table's rows, as the code reads them
  module _ {rows : List Row} (e : rows ≡ used t) where
    pub recounting_row : place < length rows
    recounting_row = rw e g.is_row

    pub recounting_periods : (k : ℕ) → k < length rows → 0 < (row_at rows k).period
    recounting_periods = rw e (λ k l. ((table_usable t g.accepted).good k l).period)

    pub recounting_period : 0 < (row_at rows place).period
    recounting_period = recounting_periods place recounting_row

  -- up to where a stretch ends
  module _ {stop : ℕ} (on : i < stop) (in_list : stop ≤ n) where
    pub recounting_stop : base + stop < 2 ^ 64
    recounting_stop = omega (arith, g.logged.listed, g.few)

    pub recounting_past : Past spans bag (base + stop)
    recounting_past = record { few = g.past.few; ended = λ c l. omega (arith, g.past.ended c l) }

    -- its end, where the slots have been told
    module _ {rows : List Row} (e : rows ≡ used t) {after : List Open} {j : ℕ} (along : Along t reps log base i stop after j) where
      pub recounting_closing : Closing rows (base + stop) after cs after cs 0
      recounting_closing =
          closing_start rows (base + stop) after cs (recounting_periods e) (rw e (table_usable t g.accepted).few)
          (countable t reps (base + i) cs g.counts (base + stop) (omega arith) recounting_stop) along.told.sixteen g.counts.sixteen

      -- and one stretch more is told
      module _ {gap : ℕ} (near : (k : ℕ) → k < length rows → base + i + gap ≤ window_end (row_at rows k) (base + i)) (few : stop - i ≤ gap) (ended : stop ≤ j) where
        told : Told t reps (base + i) (base + stop) after
        told = along_end along ended

        later : base + i < base + stop
        later = omega arith

        close : (k : ℕ) → k < length (used t) → base + stop ≤ window_end (row_at (used t) k) (base + i)
        close = rw (← e) (λ k l. omega (arith, near k l))

        long : (k : ℕ) → k < length (used t) → 0 < (row_at (used t) k).period
        long k l = ((table_usable t g.accepted).good k l).period

        module _ {bag' : ℕ} (found : Past spans bag' (base + stop)) {marks' : List ℕ}
            (marked : (starts (row_at rows place) (base + stop) ≡ true → Remarked spans (base + stop) (kind_of (get_or after place no_open).ended) marks marks')
            × (starts (row_at rows place) (base + stop) ≡ false → marks' ≡ marks))
            {os' : List Open} {cs' : List Counts} {k : ℕ} (closing : Closing rows (base + stop) after cs os' cs' k) (all : length rows ≤ k) where
          closed : ClosedAt (used t) (base + stop) after cs os' cs'
          closed = rw (← e) (closing_end closing all)

          same : starts (row_at rows place) (base + stop) ≡ starts (row_at (used t) place) (base + stop)
          same = ap (λ (rs : List Row). starts (row_at rs place) (base + stop)) e

          pub recounting_step : Recounting t reps log base n place spans old os' cs' bag' stop marks'
          recounting_step =
              let code = ended_code t reps (base + i) (base + stop) later long close after os' cs cs' told closed place g.is_row in
              let on_end : starts (row_at (used t) place) (base + stop) ≡ true → Remarked spans (base + stop) (kind_of (get_or after place no_open).ended) marks marks'
              = λ h. marked.0 (same ∙ h) in
              let inside : starts (row_at (used t) place) (base + stop) ≡ false → marks' ≡ marks = λ h. marked.1 (same ∙ h) in
              let beyond : Beyond spans marks marks'
              = beyond_after t reps place spans (base + i) (base + stop) later (long place g.is_row) (close place g.is_row) (get_or after place no_open).ended
              code marks marks' g.bagged on_end inside in
              record {
                accepted = g.accepted;
                logged = g.logged;
                few = g.few;
                sixteen = g.sixteen;
                is_row = g.is_row;
                ordered = g.ordered;
                within = in_list;
                opens = told_after t reps (base + i) (base + stop) later long close after os' cs cs' told closed;
                counts = counted_after t reps (base + i) (base + stop) later long close after os' cs cs' told closed g.counts;
                past = found;
                bagged =
                    bagged_after t reps place spans (base + i) (base + stop) later (long place g.is_row) (close place g.is_row) (get_or after place no_open).ended
                    code marks marks' g.bagged on_end inside;
                beyond = beyond_trans g.beyond beyond;
              }
