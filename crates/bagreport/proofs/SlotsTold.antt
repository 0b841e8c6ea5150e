-- The open jobs along a log: each slot's byte tells of one place.
-- Assumes nothing.
use mathlib.Core.Path.{◌≡◌, refl, sym, ap, ap₂, ◌∙◌, subst}
use mathlib.Core.Logic.{◌≢◌, ◌⊎◌, inl, inr, ⊎_elim}
use mathlib.Core.Bool.{true, false}
use mathlib.Core.List.{List}
use Prim.Native.Nat.{ℕ, zero, suc, ◌+◌, ◌-◌, ◌%◌, ◌^◌, ◌≤◌, ◌<◌}
use native.Mathlib.Omega.{arith}
use lib.Dec.{eqb}
use borrow.Author.Tests.{eqb-true, eqb-false, ne_eqb}
use lib.ListN.{length, get_or, set, length-set, length-take}
use lib.Seq.{get_or-set_same, get_or-set_other}
use Rattle.table.specs.declared.Row.{Row}
use Rattle.table.specs.declared.Table.{Table}
use Rattle.table.specs.Rows.{used, blank, row_at}
use Rattle.rule.proofs.Tests.{split, side}
use Rattle.slots.specs.OneSlot.{Work, idle, primary, alternate}
use Rattle.slots.specs.History.{work_of, reported, is_primary, is_alternate}
use Rattle.slots.proofs.SlotCases.{byte_idle, byte_primary, byte_alternate}
use Rattle.slots.proofs.EntryLoops.{row_used}
use Rattle.dosing.specs.Turns.{start_of}
use Rattle.dosing.proofs.JobWindows.{start_le}
use Rattle.bagreport.specs.declared.told.Open.{Open}
use Rattle.bagreport.specs.Answers.{works_of}
use Rattle.bagreport.specs.Turns.{told_by, no_open, open_from, Told, Logged}
use Rattle.bagreport.proofs.OpenJobs.{open_rests, open_tried, open_fallen}

-- ---- what a byte tells of the place p
abbrev Tells : Work → ℕ → Type 0
Tells w p = (w ≡ idle) ⊎ ((w ≡ primary p) ⊎ (w ≡ alternate p))

tells_place : (b : ℕ) → b < 33 → Tells (work_of b) ((b + 15) % 16)
tells_place zero l = inl (byte_idle 0 refl)
tells_place (suc b) l =
    ⊎_elim
    (λ (h : b < 16).
    let p : suc b - 1 ≡ (suc b + 15) % 16 = omega arith in
    inr (inl (byte_primary (suc b) (λ z. omega arith) (omega arith) ∙ ap primary p)))
    (λ (h : 16 ≤ b).
    let p : suc b - 17 ≡ (suc b + 15) % 16 = omega arith in
    inr (inr (byte_alternate (suc b) (omega arith) ∙ ap alternate p)))
    (side b 16)

-- of another place it tells nothing
other_primary : (w : Work) (p k : ℕ) → Tells w p → k ≢ p → is_primary k w ≡ false
unfolding is_primary
other_primary w p k (inl e) n = rw e refl
other_primary w p k (inr (inl e)) n = rw e (ne_eqb p k (λ q. n (sym q)))
other_primary w p k (inr (inr e)) n = rw e refl

other_alternate : (w : Work) (p k : ℕ) → Tells w p → k ≢ p → is_alternate k w ≡ false
unfolding is_alternate
other_alternate w p k (inl e) n = rw e refl
other_alternate w p k (inr (inl e)) n = rw e refl
other_alternate w p k (inr (inr e)) n = rw e (ne_eqb p k (λ q. n (sym q)))

-- a slot adds at most one unit
told_few : (w : Work) (rep : ℕ) (r : Row) (o : Open) → (told_by w rep r o).units ≤ o.units + 1
unfolding told_by
told_few idle rep r o = omega arith
told_few (primary k) rep r o = omega arith
told_few (alternate k) rep r o = omega arith

-- ---- one row's job at slot t, whose work tells of the place p
module _ (works : ℕ → Work) (reports : ℕ → ℕ) (r : Row) (s t : ℕ) (l : s ≤ t) (p : ℕ) (tells : Tells (works t) p) where
  here_told : open_from works reports p r s (suc t) ≡ told_by (works t) (reports t) r (open_from works reports p r s t)
  unfolding told_by is_primary is_alternate
  here_told = go tells
    where
      go : Tells (works t) p → open_from works reports p r s (suc t) ≡ told_by (works t) (reports t) r (open_from works reports p r s t)
      go (inl e) =
          open_rests works reports p r s t l (ap (is_primary p) e) (ap (is_alternate p) e)
          ∙ sym (ap (λ (w : Work). told_by w (reports t) r (open_from works reports p r s t)) e)
      go (inr (inl e)) = open_tried works reports p r s t l e ∙ sym (ap (λ (w : Work). told_by w (reports t) r (open_from works reports p r s t)) e)
      go (inr (inr e)) = open_fallen works reports p r s t l e ∙ sym (ap (λ (w : Work). told_by w (reports t) r (open_from works reports p r s t)) e)

  other_told : (k : ℕ) → k ≢ p → open_from works reports k r s (suc t) ≡ open_from works reports k r s t
  other_told k n = open_rests works reports k r s t l (other_primary (works t) p k tells n) (other_alternate (works t) p k tells n)

-- a row of the table by its place
row_place : (t : Table) (k : ℕ) → k < length (used t) → get_or t.rows k blank ≡ row_at (used t) k
unfolding used
row_place t k l = row_used t k (omega (arith, length-take t.n t.rows))

-- ---- the open jobs after one slot more
module _ {t : Table} {reps : List ℕ} {from at : ℕ} {os : List Open} (g : Told t reps from at os) (l : from ≤ at)
    (b p : ℕ) (small : b < 33) (work : works_of t reps at ≡ work_of b) (place : p ≡ (b + 15) % 16)
    (o : Open) (tells : o ≡ told_by (work_of b) (get_or reps at 0) (get_or t.rows p blank) (get_or os p no_open)) where
  abbrev R : ℕ → Row
  R k = row_at (used t) k

  abbrev open_to : ℕ → ℕ → Open
  open_to k x = open_from (works_of t reps) (reported reps) k (R k) (start_of (R k) from) x

  at_place : Tells (works_of t reps at) p
  at_place = rw (work, place) (tells_place b small)

  begun : (k : ℕ) → start_of (R k) from ≤ at
  begun k = omega (arith, start_le (R k) from)

  room : p < length os
  room = omega (arith, g.sixteen)

  each_there : p < length (used t) → o ≡ open_to p (suc at)
  each_there u =
      tells
      ∙ ap₂ (λ (r : Row) (x : Open). told_by (work_of b) (get_or reps at 0) r x) (row_place t p u) (g.each p u)
      ∙ ap (λ (w : Work). told_by w (get_or reps at 0) (R p) (open_to p at)) (sym work)
      ∙ sym (here_told (works_of t reps) (reported reps) (R p) (start_of (R p) from) at (begun p) p at_place)

  each_next : (k : ℕ) → k < length (used t) → get_or (set os p o) k no_open ≡ open_to k (suc at)
  each_next k u =
      ⊎_elim
      (λ (q : eqb k p ≡ true).
      let e : k ≡ p = eqb-true k p q in
      subst (λ (i : ℕ). get_or (set os p o) i no_open ≡ open_to i (suc at)) (sym e) (get_or-set_same os p o no_open room ∙ each_there (omega arith)))
      (λ (q : eqb k p ≡ false).
      get_or-set_other os p k o no_open (eqb-false k p q)
      ∙ g.each k u
      ∙ sym (other_told (works_of t reps) (reported reps) (R k) (start_of (R k) from) at (begun k) p at_place k (eqb-false k p q)))
      (split (eqb k p))

  few_there : o.units ≤ suc at
  few_there =
      omega (
        arith,
        ap (λ (x : Open). x.units) tells,
        told_few (work_of b) (get_or reps at 0) (get_or t.rows p blank) (get_or os p no_open),
        g.few p,
      )

  few_next : (k : ℕ) → (get_or (set os p o) k no_open).units ≤ suc at
  few_next k =
      ⊎_elim
      (λ (q : eqb k p ≡ true).
      let e : k ≡ p = eqb-true k p q in
      subst (λ (i : ℕ). (get_or (set os p o) i no_open).units ≤ suc at) (sym e) (omega (arith, ap (λ (x : Open). x.units) (get_or-set_same os p o no_open room), few_there)))
      (λ (q : eqb k p ≡ false).
      omega (arith, ap (λ (x : Open). x.units) (get_or-set_other os p k o no_open (eqb-false k p q)), g.few k))
      (split (eqb k p))

  pub told_next : Told t reps from (suc at) (set os p o)
  told_next = record { sixteen = length-set os p o ∙ g.sixteen; each = each_next; few = few_next }

-- ---- along the slots of a log, from one up to another: the i-th is next
pub record Along (t : Table) (reps : List ℕ) (log : List ℕ) (base from to : ℕ) (os : List Open) (i : ℕ) : Type 0 where
  pub told : Told t reps (base + from) (base + i) os
  pub logged : Logged t reps base to log
  pub begun : from ≤ i
  pub within : i ≤ to
  pub few : length reps < 2 ^ 63

module _ {t : Table} {reps log : List ℕ} {base from to : ℕ} {os : List Open} {i : ℕ} (g : Along t reps log base from to os i) where
  pub along_step : i < to → (p : ℕ) → p ≡ (get_or log i 0 + 15) % 16 → (o : Open)
      → o ≡ told_by (work_of (get_or log i 0)) (get_or reps (base + i) 0) (get_or t.rows p blank) (get_or os p no_open) → Along t reps log base from to (set os p o) (i + 1)
  along_step l p e o h =
      let next : base + (i + 1) ≡ suc (base + i) = omega arith in
      record {
        told =
            subst (λ (x : ℕ). Told t reps (base + from) x (set os p o)) (sym next)
            (told_next g.told (omega (arith, g.begun)) (get_or log i 0) p (g.logged.small i l) (ap work_of (sym (g.logged.bytes i l))) e o h);
        logged = g.logged;
        begun = omega (arith, g.begun);
        within = omega arith;
        few = g.few;
      }

  pub along_end : to ≤ i → Told t reps (base + from) (base + to) os
  along_end l = let e : i ≡ to = omega (arith, g.within) in subst (λ (x : ℕ). Told t reps (base + from) (base + x) os) e g.told
