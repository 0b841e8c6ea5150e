-- The reservations of one row's jobs in the buffer, window by window.
-- Assumes nothing.
use mathlib.Core.Path.{◌≡◌, refl, sym, ◌∙◌}
use mathlib.Core.Logic.{⊎_elim}
use mathlib.Core.List.{List}
use Prim.Native.Nat.{ℕ, suc, ◌+◌, ◌-◌, ◌≤◌, ◌<◌}
use native.Mathlib.Nat.{le_of_eq}
use native.Mathlib.Omega.{arith}
use lib.ListN.{length, get_or}
use borrow.Author.Tests.{eq-eqb, ne_eqb}
use Rattle.table.specs.declared.Row.{Row}
use Rattle.table.specs.Windows.{window_end, wants}
use Rattle.table.proofs.Good.{Good, fault_good}
use Rattle.table.proofs.Windows.{in_window, same_end, same_wants, end_next}
use Rattle.rule.proofs.Tests.{side}
use Rattle.rule.proofs.Counting.{between_same}
use Rattle.reserve.specs.Turns.{claim_at}
use Rattle.slots.specs.Buffer.{Written, foreign, byte_after, row_after, Holdable}
use Rattle.slots.proofs.Written.{written_end, written_join}

-- the same job
by_window : (row : ℕ) (bs : List ℕ) (s : ℕ) {e e' k k' : ℕ} → e ≡ e' → k ≡ k' → byte_after row e k bs s ≡ byte_after row e' k' bs s
by_window row bs s p q = rw (p, q)

-- a job looks at no byte before its slot
after_same : (row e k : ℕ) (bs cs : List ℕ) (s : ℕ) → ((t : ℕ) → s ≤ t → get_or cs t 0 ≡ get_or bs t 0) → byte_after row e k cs s ≡ byte_after row e k bs s
after_same row e k bs cs s same = rw (same s (omega arith), between_same (foreign row bs) (foreign row cs) (suc s) e (λ t l u. foreign_same t (omega arith)))
  where
    foreign_same : (t : ℕ) → s ≤ t → foreign row cs t ≡ foreign row bs t
    foreign_same t l = rw (same t l)

module _ (r : Row) (good : Good r) where
  -- ends of windows in order
  ends_up : (s t : ℕ) → s ≤ t → window_end r s ≤ window_end r t
  ends_up s t l =
      ⊎_elim (λ (u : t < window_end r s). le_of_eq (sym (same_end r good s t l u))) (λ (u : window_end r s ≤ t). omega (arith, in_window r good t)) (side t (window_end r s))

  -- the slots of a window have one claim
  claim_same : (clock units s t : ℕ) → s ≤ t → t < window_end r s → claim_at r clock units t ≡ claim_at r clock units s
  claim_same clock units s t l u = rw (same_end r good s t l u, same_wants r good s t l u)

  -- that of the clock's is what is left
  claim_own : (clock units : ℕ) → claim_at r clock units clock ≡ units
  claim_own clock units = rw (eq-eqb (window_end r clock) (window_end r clock) refl)

  -- and after the clock's window it is all of a
  claim_next : (clock units s : ℕ) → clock ≤ s → claim_at r clock units (window_end r s) ≡ r.alternate
  unfolding wants
  claim_next clock units s l =
      rw (ne_eqb (window_end r (window_end r s)) (window_end r clock) (λ z. omega (arith, ends_up clock s l, in_window r good (window_end r s))))

able_good : {r : Row} {clock until room : ℕ} → Holdable r clock until room → Good r
able_good {r} h = (fault_good 0 0 r h.fault).0

pub able_period : {r : Row} {clock until room : ℕ} → Holdable r clock until room → 0 < r.period
able_period h = (able_good h).period

module _ {r : Row} {clock until room : ℕ} (h : Holdable r clock until room) where
  -- the clock's window ends in the buffer, and fits into 16 bits
  first_within : window_end r clock ≤ window_end r (until - 1)
  first_within = ends_up r (able_good h) clock (until - 1) (omega (arith, h.some))

  pub able_fits : window_end r clock < 65536
  able_fits = omega (arith, first_within, h.fits)

  pub able_first : (end : ℕ) → end ≡ window_end r clock → (clock ≤ end) × (end ≤ room)
  able_first end e = (omega (arith, e, in_window r (able_good h) clock), omega (arith, e, first_within, h.within))

-- the windows before slot `first` are passed, and the next one begins there
pub record HoldingRow (r : Row) (row clock units until : ℕ) (old out : List ℕ) (first : ℕ) : Type 0 where
  pub able : Holdable r clock until (length old)
  pub next : window_end r first ≡ first + r.period
  pub claims : claim_at r clock units first ≡ r.alternate
  pub from : clock ≤ first
  pub upto : first ≤ window_end r (until - 1)
  pub passed : (t : ℕ) → t < first → clock ≤ t → window_end r t ≤ first
  pub bytes : Written clock first (row_after r row clock units old) old out

-- the clock's window is passed
pub row_start : {r : Row} {clock until : ℕ} {old out : List ℕ} → Holdable r clock until (length old) → (row units end : ℕ) → end ≡ window_end r clock
    → Written clock end (byte_after row end units old) old out → HoldingRow r row clock units until old out end
row_start {r} {clock} {until} {old} {out} h row units end e w =
    let good : Good r = able_good h in
    record {
      able = h;
      next = rw e (end_next r good clock);
      claims = rw e (claim_next r good clock units clock (omega arith));
      from = (able_first h end e).0;
      upto = omega (arith, e, first_within h);
      passed = λ t l u. le_of_eq (same_end r good clock t u (omega (arith, e)) ∙ sym e);
      bytes = record {
        size = w.size;
        inside = λ t u v.
            let in_first : t < window_end r clock = omega (arith, e) in
            w.inside t u v ∙ by_window row old t (e ∙ sym (same_end r good clock t u in_first)) (sym (claim_same r good clock units clock t u in_first ∙ claim_own r good clock units));
        behind = w.behind;
        beyond = w.beyond;
      };
    }

module _ {r : Row} {row clock units until first : ℕ} {old out : List ℕ} (g : HoldingRow r row clock units until old out first) (l : first < until) where
  good : Good r
  good = able_good g.able

  abbrev end : ℕ
  end = first + r.period

  within : end ≤ window_end r (until - 1)
  within = omega (arith, g.next, ends_up r good first (until - 1) (omega arith))

  inside : first < end
  inside = omega (arith, g.next, in_window r good first)

  pub row_fits : end < 65536
  row_fits = omega (arith, within, g.able.fits)

  pub row_room : (first ≤ end) × (end ≤ length out)
  row_room = (omega (arith, inside), omega (arith, within, g.able.within, g.bytes.size))

  pub row_nearer : until - end < until - first
  row_nearer = omega (arith, inside)

  -- the next window is passed
  pub row_step : {new : List ℕ} → Written first end (byte_after row end r.alternate out) out new → HoldingRow r row clock units until old new end
  row_step {new} w = record {
    able = g.able;
    next = rw g.next at (end_next r good first);
    claims = rw g.next at (claim_next r good clock units first g.from);
    from = omega (arith, g.from, inside);
    upto = within;
    passed = λ t u v. ⊎_elim (λ (m : t < first). omega (arith, g.passed t m v, inside)) (λ (m : first ≤ t). le_of_eq (same_end r good first t m (omega (arith, g.next)) ∙ g.next)) (side t first);
    bytes =
        written_join g.bytes w g.from (omega (arith, inside))
        (λ t u v.
        let in_next : t < window_end r first = omega (arith, g.next) in
        after_same row end r.alternate old out t (λ x m. g.bytes.beyond x (omega arith))
        ∙ by_window row old t (sym (same_end r good first t u in_next ∙ g.next)) (sym (claim_same r good clock units first t u in_next ∙ g.claims)));
  }

-- the last window is passed
pub row_end : {r : Row} {row clock units until first : ℕ} {old out : List ℕ} → HoldingRow r row clock units until old out first → until ≤ first
    → Written clock (window_end r (until - 1)) (row_after r row clock units old) old out
row_end {until = until} g l = written_end g.bytes g.upto (g.passed (until - 1) (omega (arith, g.able.some)) (omega (arith, g.able.some)))
