-- The jobs whose windows end before a slot are counted: the loop over the rows, as the code meets it.
-- Assumes nothing.
use mathlib.Core.Path.{◌≡◌, refl, sym, ap, ap₂, ◌∙◌}
use mathlib.Core.Bool.{cond}
use mathlib.Core.List.{List}
use Prim.Native.Nat.{ℕ, ◌+◌, ◌^◌, ◌≤◌, ◌<◌}
use native.Mathlib.Omega.{arith}
use borrow.Author.Count.{below_none, below_more}
use lib.ListN.{length, get_or, set, length-set}
use lib.Seq.{get_or-set_same, get_or-set_other}
use Rattle.table.specs.declared.Row.{Row}
use Rattle.table.specs.Rows.{row_at}
use Rattle.table.specs.Windows.{starts}
use Rattle.bagreport.specs.declared.told.Open.{Open}
use Rattle.bagreport.specs.declared.due.Counts.{Counts}
use Rattle.bagreport.specs.Turns.{no_open, no_counts, counted_by}

-- no count is over the slots that have passed
pub record Countable (at : ℕ) (cs : List Counts) : Type 0 where
  pub few : at < 2 ^ 64
  pub all : (k : ℕ) → (get_or cs k no_counts).all < at
  pub done : (k : ℕ) → (get_or cs k no_counts).done < at
  pub fell : (k : ℕ) → (get_or cs k no_counts).fell < at

-- ---- the rows' open jobs and counts after a slot at which windows may start; os and cs are those before it
module _ (rs : List Row) (s : ℕ) (os : List Open) where
  abbrev pub open_of : ℕ → Open
  open_of k = cond (starts (row_at rs k) s) no_open (get_or os k no_open)

  abbrev pub counts_of : List Counts → ℕ → Counts
  counts_of cs k = cond (starts (row_at rs k) s) (counted_by (get_or os k no_open).ended (get_or cs k no_counts)) (get_or cs k no_counts)

pub record ClosedAt (rs : List Row) (s : ℕ) (os : List Open) (cs : List Counts) (os' : List Open) (cs' : List Counts) : Type 0 where
  pub size : length os' ≡ length os
  pub sizes : length cs' ≡ length cs
  pub opens : (k : ℕ) → k < length rs → get_or os' k no_open ≡ open_of rs s os k
  pub rest : (k : ℕ) → length rs ≤ k → get_or os' k no_open ≡ get_or os k no_open
  pub counts : (k : ℕ) → k < length rs → get_or cs' k no_counts ≡ counts_of rs s os cs k
  pub past : (k : ℕ) → length rs ≤ k → get_or cs' k no_counts ≡ get_or cs k no_counts

-- ---- the first i rows have been looked at
pub record Closing (rs : List Row) (s : ℕ) (os : List Open) (cs : List Counts) (os' : List Open) (cs' : List Counts) (i : ℕ) : Type 0 where
  pub periods : (k : ℕ) → k < length rs → 0 < (row_at rs k).period
  pub few : length rs ≤ 16
  pub within : i ≤ length rs
  pub countable : Countable s cs
  pub given : length os ≡ 16
  pub givens : length cs ≡ 16
  pub size : length os' ≡ 16
  pub sizes : length cs' ≡ 16
  pub opens : (k : ℕ) → k < i → get_or os' k no_open ≡ open_of rs s os k
  pub counts : (k : ℕ) → k < i → get_or cs' k no_counts ≡ counts_of rs s os cs k
  pub opens_rest : (k : ℕ) → i ≤ k → get_or os' k no_open ≡ get_or os k no_open
  pub counts_rest : (k : ℕ) → i ≤ k → get_or cs' k no_counts ≡ get_or cs k no_counts

pub closing_start : (rs : List Row) (s : ℕ) (os : List Open) (cs : List Counts) → ((k : ℕ) → k < length rs → 0 < (row_at rs k).period) → length rs ≤ 16
    → Countable s cs → length os ≡ 16 → length cs ≡ 16 → Closing rs s os cs os cs 0
closing_start rs s os cs p m u e f = record {
  periods = p;
  few = m;
  within = omega arith;
  countable = u;
  given = e;
  givens = f;
  size = e;
  sizes = f;
  opens = below_none (λ k. get_or os k no_open ≡ open_of rs s os k);
  counts = below_none (λ k. get_or cs k no_counts ≡ counts_of rs s os cs k);
  opens_rest = λ k l. refl;
  counts_rest = λ k l. refl;
}

module _ {rs : List Row} {s : ℕ} {os : List Open} {cs : List Counts} {os' : List Open} {cs' : List Counts} {i : ℕ} (g : Closing rs s os cs os' cs' i) where
  module _ (l : i < length rs) where
    here : get_or cs' i no_counts ≡ get_or cs i no_counts
    here = g.counts_rest i (omega arith)

    module _ (c : Counts) (p : c ≡ counts_of rs s os' cs' i) (o : Open) (q : o ≡ open_of rs s os' i) where
      c_is : c ≡ counts_of rs s os cs i
      c_is = p ∙ ap₂ (λ (x : Open) (y : Counts). cond (starts (row_at rs i) s) (counted_by x.ended y) y) (g.opens_rest i (omega arith)) here

      o_is : o ≡ open_of rs s os i
      o_is = q ∙ ap (λ (x : Open). cond (starts (row_at rs i) s) no_open x) (g.opens_rest i (omega arith))

      pub closing_step : Closing rs s os cs (set os' i o) (set cs' i c) (i + 1)
      closing_step = record {
        periods = g.periods;
        few = g.few;
        within = omega arith;
        countable = g.countable;
        given = g.given;
        givens = g.givens;
        size = length-set os' i o ∙ g.size;
        sizes = length-set cs' i c ∙ g.sizes;
        opens =
            below_more (λ k. get_or (set os' i o) k no_open ≡ open_of rs s os k) i (λ k v. get_or-set_other os' i k o no_open (λ w. omega arith) ∙ g.opens k v)
            (get_or-set_same os' i o no_open (omega (arith, g.few, g.size)) ∙ o_is);
        counts =
            below_more (λ k. get_or (set cs' i c) k no_counts ≡ counts_of rs s os cs k) i (λ k v. get_or-set_other cs' i k c no_counts (λ w. omega arith) ∙ g.counts k v)
            (get_or-set_same cs' i c no_counts (omega (arith, g.few, g.sizes)) ∙ c_is);
        opens_rest = λ k v. get_or-set_other os' i k o no_open (λ w. omega arith) ∙ g.opens_rest k (omega arith);
        counts_rest = λ k v. get_or-set_other cs' i k c no_counts (λ w. omega arith) ∙ g.counts_rest k (omega arith);
      }

  pub closing_end : length rs ≤ i → ClosedAt rs s os cs os' cs'
  closing_end l = record {
    size = g.size ∙ sym g.given;
    sizes = g.sizes ∙ sym g.givens;
    opens = λ k v. g.opens k (omega arith);
    rest = λ k v. g.opens_rest k (omega (arith, g.within));
    counts = λ k v. g.counts k (omega arith);
    past = λ k v. g.counts_rest k (omega (arith, g.within));
  }
