-- The jobs of a table's rows and the windows that begin from slot 0 on are the same.
-- Assumes nothing.
use mathlib.Core.Path.{◌≡◌, sym, ap, ◌∙◌}
use mathlib.Core.Logic.{⊎_elim}
use mathlib.Core.Bool.{Bool, true}
use mathlib.Core.List.{List}
use Prim.Native.Nat.{ℕ, suc, ◌/◌, ◌<◌}
use native.Mathlib.Omega.{arith}
use lib.Dec.{eqb}
use lib.ListN.{length}
use borrow.Author.Tests.{eqb-true}
use Rattle.table.specs.declared.Row.{Row}
use Rattle.table.specs.Rows.{row_at, cycle_of}
use Rattle.table.specs.Windows.{opens, closes, starts}
use Rattle.table.proofs.Windows.{start_zero, end_opens, opens_first, starts_opens, start_opens, start_wants, opens_within}
use Rattle.table.proofs.Cycle.{cycle_multiple}
use Rattle.rule.specs.Rule.{begins, held, between, lacks}
use Rattle.rule.specs.Words.{Follows}
use Rattle.rule.proofs.Tests.{or_cases, or_right}
use Rattle.rule.proofs.Facts.{short_few, few_short}
use Rattle.rule.proofs.Lacks.{lacks_at, at_lacks}
use Rattle.reserve.specs.Tables.{ends, whole}
use Rattle.reserve.specs.Demand.{InCycle, Assigned, ShortJob}
use Rattle.reserve.proofs.Tables.{AllGood, begins_is}

module _ (rs : List Row) (good : AllGood rs) (i : ℕ) (l : i < length rs) where
  abbrev r : Row
  r = row_at rs i

  -- ---- from a job to its window
  module _ (j : ℕ) (c : InCycle rs i j) where
    job_end : ends rs i (opens r j) ≡ closes r j
    unfolding ends
    job_end = end_opens r (good i l) j c.0

    job_claim : whole rs i (opens r j) ≡ r.alternate
    unfolding whole
    job_claim = start_wants r (good i l) (opens r j) (starts_opens r (good i l) j c.0)

    job_begins : begins (ends rs) (whole rs) 0 i (opens r j) ≡ true
    job_begins =
        begins_is rs good (whole rs) 0 i (opens r j) l (omega arith) ∙ or_right (eqb (opens r j) 0) (starts r (opens r j)) (starts_opens r (good i l) j c.0)

    job_within : opens r j < cycle_of rs
    job_within = omega (arith, opens_first r (good i l) j c.0, c.1)

  -- ---- from a window to its job
  module _ (w : ℕ) (b : begins (ends rs) (whole rs) 0 i w ≡ true) (u : w < cycle_of rs) where
    abbrev job : ℕ
    job = suc (w / r.period)

    starts_there : starts r w ≡ true
    starts_there =
        ⊎_elim (λ e. rw (eqb-true w 0 e) (start_zero r (good i l))) (λ e. e)
        (or_cases (eqb w 0) (starts r w) (sym (begins_is rs good (whole rs) 0 i w l (omega arith)) ∙ b))

    opens_there : opens r job ≡ w
    opens_there = sym (start_opens r (good i l) w starts_there)

    in_cycle : InCycle rs i job
    in_cycle = (omega arith, opens_within r (good i l) (cycle_of rs) job (cycle_multiple rs i l) (omega arith) (rw opens_there u))

-- ---- the words, job by job and window by window
module _ (rs : List Row) (good : AllGood rs) where
  pub follows_assigned : (A : ℕ → ℕ → Bool) → Follows (ends rs) (whole rs) (length rs) 0 (cycle_of rs) A → Assigned rs A
  unfolding Follows Assigned
  follows_assigned A f i j l c =
      let g = f i (opens (row_at rs i) j) l (omega arith) (job_within rs good i l j c) (job_begins rs good i l j c) in
      rw (job_end rs good i l j c, job_claim rs good i l j c) at g

  pub assigned_follows : (A : ℕ → ℕ → Bool) → Assigned rs A → Follows (ends rs) (whole rs) (length rs) 0 (cycle_of rs) A
  unfolding Follows Assigned
  assigned_follows A a i w l z u b =
      let c : InCycle rs i (job rs good i l w b u) = in_cycle rs good i l w b u in
      let g = a i (job rs good i l w b u) l c in
      let e : opens (row_at rs i) (job rs good i l w b u) ≡ w = opens_there rs good i l w b u in
      let h : closes (row_at rs i) (job rs good i l w b u) ≡ ends rs i w = sym (job_end rs good i l (job rs good i l w b u) c) ∙ ap (ends rs i) e in
      let k : (row_at rs i).alternate ≡ whole rs i w = sym (job_claim rs good i l (job rs good i l w b u) c) ∙ ap (whole rs i) e in
      rw (e, h, k) at g

  -- ---- a job that is short
  pub short_lacks : (i j : ℕ) → i < length rs → ShortJob rs i j → lacks (ends rs) (whole rs) 0 (cycle_of rs) i ≡ true
  unfolding ShortJob
  short_lacks i j l h =
      let c : InCycle rs i j = h.0 in
      let few : between (held (ends rs) (whole rs) i) (opens (row_at rs i) j) (ends rs i (opens (row_at rs i) j)) < whole rs i (opens (row_at rs i) j)
      = rw (job_end rs good i l j c, job_claim rs good i l j c) h.1 in
      at_lacks (ends rs) (whole rs) 0 (cycle_of rs) i (opens (row_at rs i) j) (omega arith) (job_within rs good i l j c) (job_begins rs good i l j c)
      (few_short (ends rs) (whole rs) i (opens (row_at rs i) j) few)

  pub lacks_short : (i : ℕ) → i < length rs → lacks (ends rs) (whole rs) 0 (cycle_of rs) i ≡ true → (j : ℕ) × ShortJob rs i j
  unfolding ShortJob
  lacks_short i l h =
      let g = lacks_at (ends rs) (whole rs) 0 (cycle_of rs) i h in
      let w : ℕ = g.0 in
      let j : ℕ = job rs good i l w g.3 g.2 in
      let c : InCycle rs i j = in_cycle rs good i l w g.3 g.2 in
      let e : w ≡ opens (row_at rs i) j = sym (opens_there rs good i l w g.3 g.2) in
      let few : between (held (ends rs) (whole rs) i) (opens (row_at rs i) j) (ends rs i (opens (row_at rs i) j)) < whole rs i (opens (row_at rs i) j)
      = rw (← e) (short_few (ends rs) (whole rs) i w g.4) in
      (j, (c, rw (job_end rs good i l j c, job_claim rs good i l j c) at few))
