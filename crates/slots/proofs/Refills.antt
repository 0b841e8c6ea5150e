-- A refill after a done: the slots given up, and who holds them then.
-- Assumes nothing.
use mathlib.Core.Path.{◌≡◌, refl, sym, ap, ◌∙◌}
use mathlib.Core.Logic.{⊎_elim}
use mathlib.Core.Bool.{true, cond}
use mathlib.Core.List.{List}
use Prim.Native.Nat.{ℕ, zero, suc, ◌+◌, ◌≤◌, ◌<◌}
use native.Mathlib.Numerals.{add-one}
use native.Mathlib.Omega.{arith}
use lib.Dec.{leb}
use lib.ListN.{length, get_or}
use borrow.Author.Tests.{le-leb, lt-leb}
use Rattle.table.specs.declared.Row.{Row}
use Rattle.table.specs.declared.Table.{Table}
use Rattle.table.specs.Rows.{used}
use Rattle.rule.specs.Rule.{takes, holder}
use Rattle.rule.proofs.Tests.{side}
use Rattle.rule.proofs.Facts.{takes_free, leaves_if}
use Rattle.rule.proofs.Holders.{held_down, holder_is, is_holder, holder_free, free_holder, holder_suc}
use Rattle.rule.proofs.Alike.{holder_alike}
use Rattle.reserve.specs.Tables.{ends}
use Rattle.reserve.specs.Turns.{Ready}
use Rattle.reserve.proofs.Ready.{few, size}
use Rattle.slots.specs.declared.Record.{Record}
use Rattle.slots.specs.Sound.{claims_of}
use Rattle.slots.specs.OneSlot.{holder_at}
use Rattle.slots.specs.Buffer.{Freed, Refilled, Written, above_at, Rowed}
use Rattle.slots.proofs.ByteHolders.{row_passed}

-- ---- who holds a slot then
-- the rows above place m, of n, keep their slots
above_holder : (E K : ℕ → ℕ → ℕ) (m n s : ℕ) → m ≤ n → cond (leb (holder E K n s) m) (holder E K n s) 0 ≡ holder E K m s
above_holder E K m n s l = go (holder E K n s) refl
  where
    go : (h : ℕ) → holder E K n s ≡ h → cond (leb h m) h 0 ≡ holder E K m s
    go zero e = rw (le-leb 0 m (omega arith)) (sym (holder_free E K m s (held_down E K m n s l (free_holder E K n s e))))
    go (suc j) e =
        let taken : takes E K j s ≡ true = (is_holder E K n j s e).1 in
        ⊎_elim (λ (u : j < m). rw (le-leb (suc j) m u) (sym (holder_is E K m j s u taken)))
        (λ (u : m ≤ j). rw (lt-leb (suc j) m (omega arith)) (sym (holder_free E K m s (held_down E K m j s u (takes_free E K j s taken))))) (side j m)

-- a row that claims nothing takes nothing
idle_holder : (E K : ℕ → ℕ → ℕ) (i s : ℕ) → K i s ≡ 0 → holder E K (suc i) s ≡ holder E K i s
idle_holder E K i s e = holder_suc E K i s ∙ row_passed (holder E K i s) (suc i) (takes E K i s) (leaves_if E K i s (omega arith))

module _ {rs : List Row} {cycle : ℕ} {q : Record} {place end : ℕ} {old : List ℕ} (f : Freed rs cycle q place end old) where
  abbrev E : ℕ → ℕ → ℕ
  E = ends rs

  abbrev K' : ℕ → ℕ → ℕ
  K' = claims_of rs q

  -- before the end the rows above the place claim as before, and its own row nothing
  freed_first : (s : ℕ) → q.clock ≤ s → s < end → s < cycle → above_at place old s ≡ holder E K' (suc place) s
  freed_first s l u v =
      ap (λ (b : ℕ). cond (leb b place) b 0) (f.bytes s l v)
      ∙ above_holder E f.K place (length rs) s (omega (arith, f.is_row))
      ∙ sym (holder_alike E f.K K' place q.clock (λ i t row m. f.others i t (omega (arith, f.is_row)) m (λ e. absurd (omega arith))) s l)
      ∙ sym (idle_holder E K' place s (f.freed s l u))

  -- at or after it all do
  freed_beyond : q.clock ≤ end → (s : ℕ) → end ≤ s → s < cycle → get_or old s 0 ≡ holder_at rs q s
  unfolding holder_at
  freed_beyond c s l u =
      f.bytes s (omega arith) u ∙ sym (holder_alike E f.K K' (length rs) end (λ i t row m. f.others i t row (omega arith) (λ _. m)) s l)

  -- what the rows below the place leave
  pub refilled : {mid new : List ℕ} → q.clock < end → Written q.clock end (above_at place old) old mid → Written q.clock end (holder_at rs q) mid new → Refilled rs cycle q end old new
  refilled on w v = record {
    size = v.size ∙ w.size;
    ahead = λ s l u.
        ⊎_elim (λ (m : s < end). v.inside s l m) (λ (m : end ≤ s). v.beyond s m ∙ w.beyond s m ∙ freed_beyond (omega arith) s m u) (side s end);
    behind = λ s l. v.behind s l ∙ w.behind s l;
    beyond = λ s l. v.beyond s l ∙ w.beyond s l;
  }

-- what they find, as the code meets it
module _ {t : Table} {cycle : ℕ} {q : Record} {place end : ℕ} {old : List ℕ} (r : Ready t cycle) (f : Freed (used t) cycle q place end old) where
  pub freed_place : length t.rows ≡ 16 → (place + 1 ≤ t.n) × (place + 1 < 256)
  freed_place e = (omega (arith, f.is_row, size r e), omega (arith, f.is_row, size r e, few r))

  pub freed_rowed : {mid : List ℕ} → q.clock < end → end ≤ cycle → cycle ≤ length old → Written q.clock end (above_at place old) old mid
      → Rowed (used t) q end (place + 1) mid
  freed_rowed on within room w = record {
    some = on;
    within = omega (arith, r.is_cycle);
    room = omega (arith, r.is_cycle, w.size);
    first = λ s l u. w.inside s l u ∙ rw add-one (freed_first f s l u (omega arith));
    all = λ s l u. w.beyond s l ∙ freed_beyond f (omega arith) s l (omega (arith, r.is_cycle));
  }
