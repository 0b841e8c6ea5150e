-- The jobs that a record has in the cycle and the windows that begin from its clock on are the same: what the words say of each job, the rule's `Follows` says of each window.
-- Assumes nothing.
use mathlib.Core.Path.{◌≡◌, sym, ap, ◌∙◌}
use mathlib.Core.Logic.{⊎_elim}
use mathlib.Core.Bool.{Bool, true}
use mathlib.Core.List.{List}
use Prim.Native.Nat.{ℕ, zero, suc, ◌/◌, ◌≤◌, ◌<◌}
use native.Mathlib.Nat.{eq-or-lt_of_le}
use native.Mathlib.Omega.{arith}
use borrow.Author.Tests.{eqb-true}
use lib.Dec.{eqb}
use lib.ListN.{length}
use Rattle.table.specs.declared.Row.{Row}
use Rattle.table.specs.Rows.{row_at, cycle_of}
use Rattle.table.specs.Windows.{opens, closes, starts}
use Rattle.table.proofs.Windows.{start_end, end_opens, opens_first, starts_opens, start_opens, start_wants, opens_within}
use Rattle.table.proofs.Cycle.{cycle_multiple}
use Rattle.rule.specs.Rule.{begins, Claims}
use Rattle.rule.specs.Words.{above, Reserves, Follows}
use Rattle.rule.proofs.Tests.{side, or_cases, or_right}
use Rattle.rule.proofs.Lacks.{begins_first}
use Rattle.rule.proofs.Moves.{claim_later}
use Rattle.reserve.specs.Tables.{ends, whole, claims}
use Rattle.reserve.specs.Demand.{InCycle}
use Rattle.reserve.proofs.Tables.{AllGood, windows_of, claims_left, begins_is}
use Rattle.slots.specs.declared.Record.{Record}
use Rattle.slots.specs.Records.{job_at}
use Rattle.slots.specs.Sound.{lefts, claims_of}
use Rattle.slots.proofs.RecordClaims.{left_at, claim_current}
use Rattle.runs.specs.Demand2.{ReservedFrom}

module _ (rs : List Row) (good : AllGood rs) (q : Record) where
  pub record_claims : Claims (ends rs) (claims_of rs q) (length rs)
  unfolding claims_of
  record_claims = claims_left rs good q.clock (lefts q.jobs)

  now_claim : (i : ℕ) → i < length rs → claims_of rs q i q.clock ≡ (job_at q.jobs i).left
  now_claim i row = claim_current rs good q i row q.clock (omega arith) ((windows_of rs good).inside i q.clock row)

  -- a window that starts after the clock is not the clock's
  past : (i w : ℕ) → i < length rs → q.clock < w → starts (row_at rs i) w ≡ true → ends rs i q.clock ≤ w
  unfolding ends
  past i zero row l h = absurd (omega arith)
  past i (suc s) row l h =
      ⊎_elim (λ (u : s < ends rs i q.clock).
      omega (arith, (windows_of rs good).flat i q.clock s row (omega arith) u, start_end (row_at rs i) (good i row) s h))
      (λ (u : ends rs i q.clock ≤ s). omega arith) (side s (ends rs i q.clock))

  later_claim : (i w : ℕ) → i < length rs → q.clock < w → starts (row_at rs i) w ≡ true → claims_of rs q i w ≡ (row_at rs i).alternate
  unfolding claims_of claims whole
  later_claim i w row l h =
      claim_later (windows_of rs good) (whole rs) q.clock (left_at q.jobs) i row w (past i w row l h) ∙ start_wants (row_at rs i) (good i row) w h

  module _ (A : ℕ → ℕ → Bool) where
    pub follows_reserved : q.clock < cycle_of rs → Follows (ends rs) (claims_of rs q) (length rs) q.clock (cycle_of rs) A → ReservedFrom rs q A
    unfolding Follows ends
    follows_reserved ticks f = record {
      current = λ i row.
          let g = f i q.clock row (omega arith) ticks (begins_first (ends rs) (claims_of rs q) q.clock i) in
          rw (now_claim i row) at g;
      later = λ i j row c l.
          let r : Row = row_at rs i in
          let s : starts r (opens r j) ≡ true = starts_opens r (good i row) j c.0 in
          let b : begins (ends rs) (claims_of rs q) q.clock i (opens r j) ≡ true
          = begins_is rs good (claims_of rs q) q.clock i (opens r j) row (omega arith) ∙ or_right (eqb (opens r j) q.clock) (starts r (opens r j)) s in
          let g = f i (opens r j) row (omega arith) (omega (arith, opens_first r (good i row) j c.0, c.1)) b in
          rw (end_opens r (good i row) j c.0, later_claim i (opens r j) row l s) at g;
    }

    -- a window that starts after the clock is a later job's
    starts_later : ReservedFrom rs q A → (i w : ℕ) → i < length rs → q.clock < w → w < cycle_of rs → starts (row_at rs i) w ≡ true
        → Reserves (above A i) (A i) w (ends rs i w) (claims_of rs q i w)
    unfolding ends
    starts_later a i w row l u h =
        let r : Row = row_at rs i in
        let j : ℕ = suc (w / r.period) in
        let e : opens r j ≡ w = sym (start_opens r (good i row) w h) in
        let c : InCycle rs i j = (omega arith, opens_within r (good i row) (cycle_of rs) j (cycle_multiple rs i row) (omega arith) (rw e u)) in
        let d : closes r j ≡ ends rs i w = sym (end_opens r (good i row) j (omega arith)) ∙ ap (ends rs i) e in
        let g = a.later i j row c (rw e l) in
        rw (e, d, ← later_claim i w row l h) at g

    pub reserved_follows : ReservedFrom rs q A → Follows (ends rs) (claims_of rs q) (length rs) q.clock (cycle_of rs) A
    unfolding Follows
    reserved_follows a i w row l u b =
        ⊎_elim (λ (e : q.clock ≡ w). rw (← e) (rw (now_claim i row) (a.current i row)))
        (λ (v : q.clock < w).
        ⊎_elim (λ (e : eqb w q.clock ≡ true). absurd (omega (arith, eqb-true w q.clock e))) (λ (e : starts (row_at rs i) w ≡ true). starts_later a i w row v u e)
        (or_cases (eqb w q.clock) (starts (row_at rs i) w) (sym (begins_is rs good (claims_of rs q) q.clock i w row l) ∙ b)))
        (eq-or-lt_of_le l)
