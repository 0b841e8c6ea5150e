-- The buffer made true again as a stretch has ended: built at slot 0, refilled after a done, and else true already.
-- Assumes nothing.
use mathlib.Core.Path.{◌≡◌, refl, sym, ap, ◌∙◌}
use mathlib.Core.List.{List}
use Prim.Native.Nat.{ℕ, zero, suc, ◌-◌, ◌≤◌, ◌<◌}
use native.Mathlib.Omega.{arith}
use lib.ListN.{length, get_or}
use Rattle.table.specs.declared.Row.{Row}
use Rattle.table.specs.declared.Table.{Table}
use Rattle.table.specs.Rows.{used, blank, row_at}
use Rattle.table.specs.Windows.{window_end}
use Rattle.rule.proofs.Alike.{holder_alike}
use Rattle.reserve.specs.Tables.{ends}
use Rattle.reserve.proofs.Ready.{few, size, row_is, period_some}
use Rattle.slots.specs.declared.Job.{Job}
use Rattle.slots.specs.declared.Record.{Record}
use Rattle.slots.specs.Sound.{claims_of}
use Rattle.slots.specs.OneSlot.{holder_at}
use Rattle.slots.specs.Buffer.{Kept, Freed, Refilled, Stale}
use Rattle.slots.specs.Turns.{Steady}
use Rattle.slots.proofs.Settled.{stands_ready, stands_ticks}
use Rattle.slots.proofs.Openings.{end_in_cycle, end_small}

-- where the window has ended, the claims from before are those of now
freed_over : {rs : List Row} {cycle : ℕ} {q : Record} {place end : ℕ} {kept : List ℕ} → Freed rs cycle q place end kept → end ≤ q.clock
    → (s : ℕ) → q.clock ≤ s → s < cycle → get_or kept s 0 ≡ holder_at rs q s
unfolding holder_at
freed_over {rs} {cycle} {q} {place} {end} {kept} g e s l u =
    g.bytes s l u ∙ sym (holder_alike (ends rs) g.K (claims_of rs q) (length rs) q.clock (λ i t row v. g.others i t row v (λ _. omega arith)) s l)

module _ {t : Table} {cycle clock : ℕ} {jobs : List Job} (g : Steady t cycle (record { clock = clock; jobs = jobs })) (sixteen : length jobs ≡ 16) where
  abbrev q : Record
  q = record { clock = clock; jobs = jobs }

  pub keep_ticks : clock < cycle
  keep_ticks = stands_ticks g sixteen

  module _ {finished : ℕ} {kept : List ℕ} (st : Stale (used t) cycle q finished kept) (ticked : clock ≡ 0 → ⊥) where
    some : 0 < clock
    some = go (clock) refl
      where
        go : (c : ℕ) → clock ≡ c → 0 < clock
        go zero e = absurd (ticked e)
        go (suc c) e = omega arith

    -- no job was done
    pub keep_quiet : finished ≡ 0 → Kept (used t) cycle q kept kept
    keep_quiet e = record { ticks = keep_ticks; size = refl; behind = st.behind some; ahead = st.ahead some e; past = λ s l. refl }

    module _ (full : length t.rows ≡ 16) (was-done : finished ≡ 0 → ⊥) where
      is_row : finished ≡ suc (finished - 1)
      is_row = go finished refl
        where
          go : (n : ℕ) → finished ≡ n → finished ≡ suc (finished - 1)
          go zero e = absurd (was-done e)
          go (suc n) e = omega arith

      freed : Freed (used t) cycle q (finished - 1) (ends (used t) (finished - 1) (clock - 1)) kept
      freed = st.after_done some (finished - 1) is_row

      place : finished - 1 < t.n
      place = omega (arith, freed.is_row, size (stands_ready g) full)

      pub keep_place : finished - 1 < 16
      keep_place = omega (arith, place, few (stands_ready g))

      before : clock - 1 < cycle
      before = omega (arith, keep_ticks)

      abbrev row : Row
      row = get_or t.rows (finished - 1) blank

      same_row : row ≡ row_at (used t) (finished - 1)
      same_row = row_is (stands_ready g) full (finished - 1) place

      pub keep_period : 0 < row.period
      keep_period = period_some (stands_ready g) full (finished - 1) place

      pub keep_end_fits : window_end row (clock - 1) < 65536
      keep_end_fits = rw same_row (end_small (stands_ready g) refl freed.is_row (clock - 1) before)

      module _ (end : ℕ) (is_end : end ≡ window_end row (clock - 1)) where
        same_end : ends (used t) (finished - 1) (clock - 1) ≡ end
        unfolding ends
        same_end = sym (is_end ∙ ap (λ (r : Row). window_end r (clock - 1)) same_row)

        pub keep_in_cycle : end ≤ cycle
        unfolding ends
        keep_in_cycle = omega (arith, same_end, end_in_cycle (stands_ready g) refl freed.is_row (clock - 1) before)

        pub keep_freed : Freed (used t) cycle q (finished - 1) end kept
        keep_freed = rw (← same_end) freed

        -- a job was done
        pub keep_refilled : {new : List ℕ} → Refilled (used t) cycle q end kept new → Kept (used t) cycle q kept new
        keep_refilled r = record {
          ticks = keep_ticks;
          size = r.size;
          behind = λ s l. r.behind s l ∙ st.behind some s l;
          ahead = r.ahead;
          past = λ s l. r.beyond s (omega (arith, keep_in_cycle));
        }

        -- a job was done in its window's last slot
        pub keep_over : end ≤ clock → Kept (used t) cycle q kept kept
        keep_over l = record { ticks = keep_ticks; size = refl; behind = st.behind some; ahead = freed_over freed (omega (arith, same_end)); past = λ s u. refl }
