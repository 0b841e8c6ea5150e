-- The rows of a table reserve in the buffer, one after the other.
-- Assumes nothing.
use mathlib.Core.Path.{◌≡◌, refl, ap, ◌∙◌}
use mathlib.Core.Logic.{inl, ⊎_elim}
use mathlib.Core.Bool.{cond}
use mathlib.Core.List.{List}
use Prim.Native.Nat.{ℕ, suc, ◌+◌, ◌-◌, ◌≤◌, ◌<◌}
use native.Mathlib.Numerals.{add-one}
use native.Mathlib.Omega.{arith}
use lib.ListN.{length, get_or}
use Rattle.table.specs.declared.Row.{Row}
use Rattle.table.specs.declared.Table.{Table}
use Rattle.table.specs.Rows.{used, blank, row_at, cycle_of}
use Rattle.table.specs.Windows.{window_end}
use Rattle.table.proofs.Good.{good_fault}
use Rattle.rule.specs.Rule.{takes, holder, claimed}
use Rattle.rule.proofs.Tests.{side}
use Rattle.reserve.specs.Tables.{ends, whole, claims}
use Rattle.reserve.specs.Turns.{Ready}
use Rattle.reserve.proofs.Tables.{AllGood, windows_of, claims_left, ends_within}
use Rattle.reserve.proofs.Ready.{few, good, cycle_fits, size, row_is}
use Rattle.slots.specs.declared.Record.{Record}
use Rattle.slots.specs.Records.{no_job, job_at}
use Rattle.slots.specs.Sound.{lefts, claims_of}
use Rattle.slots.specs.OneSlot.{holder_at}
use Rattle.slots.specs.Buffer.{Written, foreign, byte_after, row_after, Holdable, Rowed}
use Rattle.slots.proofs.Entries.{lefts_at}
use Rattle.slots.proofs.ByteHolders.{Tells, byte_first, byte_all, taken_first, taken_all, picks_alike}

-- what a row leaves of the bytes, with the windows and claims as the rule reads them
row_by_rule : (rs : List Row) (q : Record) (i s : ℕ) (bs : List ℕ)
    → row_after (row_at rs i) (i + 1) q.clock (job_at q.jobs i).left bs s ≡ byte_after (suc i) (ends rs i s) (claims_of rs q i s) bs s
unfolding claims_of claims claimed ends whole
row_by_rule rs q i s bs = rw (lefts_at q.jobs i, add-one)

-- ---- one row, where the rows above it have reserved before `until`, and all rows at or after it
module _ {rs : List Row} (fine : AllGood rs) {q : Record} {until i : ℕ} {bs : List ℕ} (row : i < length rs) (g : Rowed rs q until i bs) where
  abbrev K : ℕ → ℕ → ℕ
  K = claims_of rs q

  tells : (t : ℕ) → q.clock ≤ t → t < cycle_of rs → Tells (ends rs) K i (foreign (suc i) bs) t
  unfolding holder_at
  tells t l u =
      ⊎_elim (λ (v : t < until). inl (byte_first (ends rs) K i t (get_or bs t 0) (g.first t l v)))
      (λ (v : until ≤ t). byte_all (ends rs) K i (length rs) t (get_or bs t 0) row (g.all t v u)) (side t until)

  -- it takes the slots that are its own by the rule
  row_takes : (s : ℕ) → q.clock ≤ s → s < cycle_of rs
      → row_after (row_at rs i) (i + 1) q.clock (job_at q.jobs i).left bs s ≡ cond (takes (ends rs) K i s) (suc i) (get_or bs s 0)
  unfolding claims_of
  row_takes s l u =
      row_by_rule rs q i s bs
      ∙ ap (λ b. cond b (suc i) (get_or bs s 0))
      (picks_alike (windows_of rs fine) (claims_left rs fine q.clock (lefts q.jobs)) i s row (foreign (suc i) bs)
      (λ t m v. tells t (omega arith) (omega (arith, ends_within rs fine i s row u))))

  pub row_before : (s : ℕ) → q.clock ≤ s → s < until
      → row_after (row_at rs i) (i + 1) q.clock (job_at q.jobs i).left bs s ≡ holder (ends rs) K (suc i) s
  row_before s l u = row_takes s l (omega (arith, g.within)) ∙ taken_first (ends rs) K i s (get_or bs s 0) (g.first s l u)

  pub row_beyond : (s : ℕ) → until ≤ s → s < cycle_of rs
      → row_after (row_at rs i) (i + 1) q.clock (job_at q.jobs i).left bs s ≡ get_or bs s 0
  unfolding holder_at
  row_beyond s l u = row_takes s (omega (arith, g.some)) u ∙ taken_all (ends rs) K i (length rs) s (get_or bs s 0) row (g.all s l u)

-- ---- the first i rows have reserved
pub record HoldingRows (t : Table) (q : Record) (until from : ℕ) (old out : List ℕ) (i : ℕ) : Type 0 where
  pub ready : Ready t (cycle_of (used t))
  pub sixteen : length t.rows ≡ 16
  pub fewer : t.n ≤ 16
  pub upto : i ≤ t.n
  pub before : Rowed (used t) q until from old
  pub bytes : Written q.clock until (holder (ends (used t)) (claims_of (used t) q) i) old out

pub rows_start : {t : Table} {q : Record} {until from : ℕ} {old : List ℕ} → Ready t (cycle_of (used t)) → length t.rows ≡ 16 → from ≤ t.n → Rowed (used t) q until from old
    → HoldingRows t q until from old old from
rows_start r e l g =
    record { ready = r; sixteen = e; fewer = few r; upto = l; before = g; bytes = record { size = refl; inside = g.first; behind = λ s u. refl; beyond = λ s u. refl } }

module _ {t : Table} {q : Record} {until from i : ℕ} {old out : List ℕ} (g : HoldingRows t q until from old out i) where
  -- what the next row finds
  finds : Rowed (used t) q until i out
  finds = record {
    some = g.before.some;
    within = g.before.within;
    room = omega (arith, g.before.room, g.bytes.size);
    first = g.bytes.inside;
    all = λ s l u. g.bytes.beyond s l ∙ g.before.all s l u;
  }

  module _ (l : i < t.n) where
    row : i < length (used t)
    row = omega (arith, size g.ready g.sixteen)

    same_row : get_or t.rows i blank ≡ row_at (used t) i
    same_row = row_is g.ready g.sixteen i l

    last : window_end (row_at (used t) i) (until - 1) ≤ cycle_of (used t)
    unfolding ends
    last = ends_within (used t) (good g.ready) i (until - 1) row (omega (arith, g.before.some, g.before.within))

    past : until ≤ window_end (row_at (used t) i) (until - 1)
    unfolding ends
    past = omega (arith, g.before.some, (windows_of (used t) (good g.ready)).inside i (until - 1) row)

    pub rows_able : Holdable (get_or t.rows i blank) q.clock until (length out)
    rows_able = rw same_row (record {
      fault = good_fault 0 0 (row_at (used t) i) (good g.ready i row) (omega arith);
      some = g.before.some;
      within = omega (arith, last, finds.room);
      fits = omega (arith, last, cycle_fits g.ready);
    })

    pub rows_step : {new : List ℕ}
        → Written q.clock (window_end (get_or t.rows i blank) (until - 1)) (row_after (get_or t.rows i blank) (i + 1) q.clock (get_or q.jobs i no_job).left out) out new
        → HoldingRows t q until from old new (i + 1)
    rows_step {new} w₀ = record { ready = g.ready; sixteen = g.sixteen; fewer = g.fewer; upto = omega arith; before = g.before; bytes = rw add-one bytes }
      where
        w : Written q.clock (window_end (row_at (used t) i) (until - 1)) (row_after (row_at (used t) i) (i + 1) q.clock (job_at q.jobs i).left out) out new
        w = rw same_row at w₀

        beyond : (s : ℕ) → until ≤ s → get_or new s 0 ≡ get_or out s 0
        beyond s u =
            ⊎_elim (λ (v : s < window_end (row_at (used t) i) (until - 1)). w.inside s (omega (arith, g.before.some)) v ∙ row_beyond (good g.ready) row finds s u (omega (arith, last)))
            (λ v. w.beyond s v) (side s (window_end (row_at (used t) i) (until - 1)))

        bytes : Written q.clock until (holder (ends (used t)) (claims_of (used t) q) (suc i)) old new
        bytes = record {
          size = w.size ∙ g.bytes.size;
          inside = λ s u v. w.inside s u (omega (arith, past)) ∙ row_before (good g.ready) row finds s u v;
          behind = λ s u. w.behind s u ∙ g.bytes.behind s u;
          beyond = λ s u. beyond s u ∙ g.bytes.beyond s u;
        }

  -- all rows have
  pub rows_end : t.n ≤ i → Written q.clock until (holder_at (used t) q) old out
  unfolding holder_at
  rows_end l = let e : i ≡ length (used t) = omega (arith, g.upto, size g.ready g.sixteen) in rw e at g.bytes
