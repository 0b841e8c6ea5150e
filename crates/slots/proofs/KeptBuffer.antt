-- The buffer that a run keeps, byte by byte, and as the list that the promise gives.
-- Assumes nothing.
use mathlib.Core.Path.{◌≡◌, sym, ap, ◌∙◌}
use mathlib.Core.Logic.{⊎_elim}
use mathlib.Core.List.{List, ◌++◌}
use Prim.Native.Nat.{ℕ, ◌+◌, ◌-◌, ◌≤◌, ◌<◌}
use native.Mathlib.Omega.{arith}
use lib.ListN.{length, get_or, drop, replicate, length-append, length-drop, length-replicate, get_or-replicate, get_or-append}
use lib.Seq.{ext_get_or, get_or-append-add, get_or-drop}
use Rattle.table.specs.declared.Row.{Row}
use Rattle.table.specs.Rows.{cycle_of}
use Rattle.rule.specs.Sweep.{holders}
use Rattle.rule.proofs.Tests.{side}
use Rattle.rule.proofs.HolderList.{length_holders, get_or_holders}
use Rattle.reserve.specs.Tables.{ends}
use Rattle.slots.specs.declared.Record.{Record}
use Rattle.slots.specs.Sound.{claims_of}
use Rattle.slots.specs.OneSlot.{holder_at}
use Rattle.slots.specs.Answers.{reservations_of}
use Rattle.slots.specs.Buffer.{Kept}

-- ---- the reservations of a record, as a list
module _ (rs : List Row) (q : Record) (in_cycle : q.clock ≤ cycle_of rs) where
  abbrev front : List ℕ
  front = replicate q.clock 0

  abbrev held : List ℕ
  held = holders (ends rs) (claims_of rs q) (length rs) q.clock (cycle_of rs - q.clock)

  front_length : length front ≡ q.clock
  front_length = length-replicate q.clock 0

  -- one byte for each slot of the cycle
  pub reservations_length : length (reservations_of rs q) ≡ cycle_of rs
  unfolding reservations_of
  reservations_length =
      omega (arith, length-append front held, front_length, length_holders (ends rs) (claims_of rs q) (length rs) q.clock (cycle_of rs - q.clock), in_cycle)

  -- 0 behind the clock
  pub reservations_behind : (s : ℕ) → s < q.clock → get_or (reservations_of rs q) s 0 ≡ 0
  unfolding reservations_of
  reservations_behind s l = get_or-append front held 0 s (omega (arith, front_length)) ∙ get_or-replicate q.clock s 0 0 l

  -- and from there on the holders
  pub reservations_ahead : (s : ℕ) → q.clock ≤ s → s < cycle_of rs → get_or (reservations_of rs q) s 0 ≡ holder_at rs q s
  unfolding reservations_of holder_at
  reservations_ahead s l u =
      let e : s ≡ length front + (s - q.clock) = omega (arith, front_length) in
      let e' : q.clock + (s - q.clock) ≡ s = omega arith in
      ap (λ (k : ℕ). get_or (front ++ held) k 0) e
      ∙ get_or-append-add front held (s - q.clock) 0
      ∙ get_or_holders (ends rs) (claims_of rs q) (length rs) q.clock (cycle_of rs - q.clock) (s - q.clock) (omega arith)
      ∙ rw e'

-- ---- a buffer that is kept is that list, and then the bytes that it held
pub kept_is : {rs : List Row} {cycle : ℕ} {q : Record} {old kept : List ℕ} → Kept rs cycle q old kept → cycle ≡ cycle_of rs → cycle ≤ length old
    → kept ≡ reservations_of rs q ++ drop (length (reservations_of rs q)) old
kept_is {rs} {cycle} {q} {old} {kept} g e room =
    ext_get_or 0 kept (reservations_of rs q ++ drop (length (reservations_of rs q)) old)
    (omega (arith, g.size, e, room, length-append (reservations_of rs q) (drop (length (reservations_of rs q)) old), length-drop (length (reservations_of rs q)) old, size)) each
  where
    in_cycle : q.clock ≤ cycle_of rs
    in_cycle = omega (arith, e, g.ticks)

    size : length (reservations_of rs q) ≡ cycle_of rs
    size = reservations_length rs q in_cycle

    first : (s : ℕ) → s < cycle → get_or (reservations_of rs q ++ drop (length (reservations_of rs q)) old) s 0 ≡ get_or (reservations_of rs q) s 0
    first s l = get_or-append (reservations_of rs q) (drop (length (reservations_of rs q)) old) 0 s (omega (arith, size, e))

    later : (s : ℕ) → cycle ≤ s → get_or (reservations_of rs q ++ drop (length (reservations_of rs q)) old) s 0 ≡ get_or old s 0
    later s l =
        let n : ℕ = length (reservations_of rs q) in
        let k : s ≡ n + (s - n) = omega (arith, size, e) in
        ap (λ (x : ℕ). get_or (reservations_of rs q ++ drop n old) x 0) k
        ∙ get_or-append-add (reservations_of rs q) (drop n old) (s - n) 0
        ∙ get_or-drop n old (s - n) 0
        ∙ ap (λ (x : ℕ). get_or old x 0) (sym k)

    each : (s : ℕ) → s < length kept → get_or kept s 0 ≡ get_or (reservations_of rs q ++ drop (length (reservations_of rs q)) old) s 0
    each s l =
        ⊎_elim
        (λ (u : s < cycle).
        ⊎_elim (λ (v : s < q.clock). g.behind s v ∙ sym (first s u ∙ reservations_behind rs q in_cycle s v))
        (λ (v : q.clock ≤ s). g.ahead s v u ∙ sym (first s u ∙ reservations_ahead rs q in_cycle s v (omega (arith, e)))) (side s q.clock))
        (λ (u : cycle ≤ s). g.past s u ∙ sym (later s u)) (side s cycle)
