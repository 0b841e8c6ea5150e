-- What any allowed work of one slot does to each row's job, at a sound record.
-- Assumes nothing.
use mathlib.Core.Path.{◌≡◌, refl, ap, ◌∙◌}
use mathlib.Core.Logic.{⊎_elim}
use mathlib.Core.Bool.{true, false}
use mathlib.Core.List.{List}
use Prim.Native.Nat.{ℕ, zero, suc, ◌≤◌, ◌<◌}
use native.Mathlib.Omega.{arith}
use borrow.Author.Tests.{eqb-true}
use lib.Dec.{eqb}
use lib.ListN.{length}
use Rattle.table.specs.declared.Row.{Row}
use Rattle.table.specs.Rows.{row_at}
use Rattle.rule.specs.Rule.{takes, Windows}
use Rattle.rule.proofs.Tests.{split, never, false_if}
use Rattle.rule.proofs.Facts.{takes_few}
use Rattle.rule.proofs.Holders.{one_holder, holder_is, is_holder}
use Rattle.rule.proofs.Advance.{met, met_taken}
use Rattle.reserve.specs.Tables.{ends}
use Rattle.reserve.proofs.Tables.{windows_of}
use Rattle.slots.specs.declared.State.TheVariants.{Waiting}
use Rattle.slots.specs.declared.Job.{Job}
use Rattle.slots.specs.declared.Record.{Record}
use Rattle.slots.specs.Records.{job_at}
use Rattle.slots.specs.Sound.{job_fits, claims_of}
use Rattle.slots.specs.OneSlot.{Work, idle, primary, alternate, holder_at, on_alternate, worked}
use Rattle.slots.specs.History.{is_primary, is_alternate}
use Rattle.slots.specs.Allowed.{Suits, Allowed}
use Rattle.slots.proofs.Acts.{Act, rests, tries, falls_back}
use Rattle.slots.proofs.JobFacts.{primary_left, primary_fits, alternate_units, alternate_fits}
use Rattle.slots.proofs.Entries.{worked_here_primary, worked_here_alternate, worked_other}
use Rattle.slots.proofs.SoundRecord.{Usable, Sound}
use Rattle.slots.proofs.RecordClaims.{claim_current}

-- row i holds slot s, as the record's claims have it
abbrev pub holds : List Row → Record → ℕ → ℕ → Type 0
holds rs q i s = takes (ends rs) (claims_of rs q) i s ≡ true

-- the work is idle, or a unit of one of the rows
abbrev pub InRows : List Row → Work → Type 0
InRows rs idle = Unit {0}
InRows rs (primary k) = k < length rs
InRows rs (alternate k) = k < length rs

module _ (rs : List Row) (q : Record) where
  -- ---- the slot's holder by its number
  pub no_holder : (s : ℕ) → holder_at rs q s ≡ 0 → (i : ℕ) → i < length rs → takes (ends rs) (claims_of rs q) i s ≡ false
  unfolding holder_at
  no_holder s e i row = false_if (takes (ends rs) (claims_of rs q) i s) (λ t. omega (arith, holder_is (ends rs) (claims_of rs q) (length rs) i s row t))

  pub the_holder : (s i : ℕ) → holder_at rs q s ≡ suc i → (i < length rs) × holds rs q i s
  unfolding holder_at
  the_holder s i e = is_holder (ends rs) (claims_of rs q) (length rs) i s e

  -- ---- what is allowed
  -- a primary that may run is a waiting row's
  pub allowed_primary : (k : ℕ) → Allowed rs q (primary k) → (k < length rs) × ((job_at q.jobs k).state ≡ Waiting)
  unfolding Allowed
  allowed_primary k al = go (holder_at rs q q.clock) al
    where
      go : (h : ℕ) → Suits rs q.jobs h (primary k) → (k < length rs) × ((job_at q.jobs k).state ≡ Waiting)
      go zero o = o
      go (suc h) e = let z : ◌≡◌ {A = ℕ} 0 1 = cc in absurd (omega arith)

  -- an alternate that may run is the holder's
  allowed_alternate : (k : ℕ) → Allowed rs q (alternate k) → (k < length rs) × holds rs q k q.clock
  unfolding Allowed
  allowed_alternate k al = go (holder_at rs q q.clock) refl al
    where
      go : (h : ℕ) → holder_at rs q q.clock ≡ h → Suits rs q.jobs h (alternate k) → (k < length rs) × holds rs q k q.clock
      go zero e o = absurd o
      go (suc h) e o = let same : h ≡ k = cc in the_holder q.clock k (e ∙ ap suc same)

  pub allowed_row : (w : Work) → Allowed rs q w → InRows rs w
  allowed_row idle al = tt
  allowed_row (primary k) al = (allowed_primary k al).0
  allowed_row (alternate k) al = (allowed_alternate k al).0

  -- the row that holds the slot runs its alternate
  holder_runs : (k : ℕ) (w : Work) → k < length rs → holds rs q k q.clock → Allowed rs q w → w ≡ alternate k
  unfolding Allowed
  holder_runs k w row t al = go (holder_at rs q q.clock) refl al
    where
      go : (h : ℕ) → holder_at rs q q.clock ≡ h → Suits rs q.jobs h w → w ≡ alternate k
      go zero e o = never t (no_holder q.clock e k row)
      go (suc h) e o = o ∙ ap alternate (one_holder (ends rs) (claims_of rs q) h k q.clock (the_holder q.clock h e).1 t)

-- ---- one slot, as row k sees it
module _ (rs : List Row) (ok : Usable rs) (q : Record) (s : Sound rs q) (k : ℕ) (row : k < length rs) where
  place : k < length q.jobs
  place = omega (arith, row, ok.few, s.sixteen)

  win : Windows (ends rs) (length rs)
  win = windows_of rs ok.good

  claims_left : claims_of rs q k q.clock ≡ (job_at q.jobs k).left
  claims_left = claim_current rs ok.good q k row q.clock (omega arith) (win.inside k q.clock row)

  -- a row that holds the clock's slot has a unit left
  holder_left : holds rs q k q.clock → 0 < (job_at q.jobs k).left
  holder_left t = omega (arith, takes_few (ends rs) (claims_of rs q) k q.clock t, claims_left)

  pub act_of : (rep : ℕ) (w : Work) → Allowed rs q w → Act k w rep (row_at rs k) (job_at q.jobs k) (job_at (worked w rep rs q.jobs) k)
  unfolding is_primary is_alternate
  act_of rep idle al = rests refl refl (worked_other rep rs q.jobs idle k refl refl)
  act_of rep (primary i) al =
      ⊎_elim
      (λ (e : eqb i k ≡ true).
      let same : i ≡ k = eqb-true i k e in
      rw same (tries refl (allowed_primary rs q k (rw same at al)).1 (worked_here_primary rep rs q.jobs k place)))
      (λ (e : eqb i k ≡ false). rests e refl (worked_other rep rs q.jobs (primary i) k e refl)) (split (eqb i k))
  act_of rep (alternate i) al =
      ⊎_elim
      (λ (e : eqb i k ≡ true).
      let same : i ≡ k = eqb-true i k e in
      rw same (falls_back refl (holder_left (allowed_alternate rs q k (rw same at al)).1) (worked_here_alternate rep rs q.jobs k place)))
      (λ (e : eqb i k ≡ false). rests refl e (worked_other rep rs q.jobs (alternate i) k refl e)) (split (eqb i k))

  -- its job has no more left than before, and still fits
  module _ (rep : ℕ) (w : Work) (al : Allowed rs q w) where
    abbrev before : Job
    before = job_at q.jobs k

    abbrev after : Job
    after = job_at (worked w rep rs q.jobs) k

    pub left_less : after.left ≤ before.left
    left_less = go (act_of rep w al)
      where
        go : Act k w rep (row_at rs k) before after → after.left ≤ before.left
        go (rests a b e) = omega (arith, ap (λ (j : Job). j.left) e)
        go (tries a b e) = omega (arith, ap (λ (j : Job). j.left) e, primary_left rep (row_at rs k) before)
        go (falls_back a b e) = omega (arith, ap (λ (j : Job). j.left) e, (alternate_units before).1)

    pub still_fits : job_fits (row_at rs k) after ≡ true
    still_fits = go (act_of rep w al)
      where
        go : Act k w rep (row_at rs k) before after → job_fits (row_at rs k) after ≡ true
        go (rests a b e) = rw e (s.jobs_fit_lem k row)
        go (tries a b e) = rw e (primary_fits rep (row_at rs k) before b (s.jobs_fit_lem k row))
        go (falls_back a b e) = rw e (alternate_fits (row_at rs k) before (s.jobs_fit_lem k row))

    -- in the last slot of the row's window nothing stays left
    pub none_left : ends rs k q.clock ≡ suc q.clock → after.left ≡ 0
    none_left e =
        ⊎_elim
        (λ (t : takes (ends rs) (claims_of rs q) k q.clock ≡ true).
        let one : claims_of rs q k q.clock ≡ 1 = met_taken win (claims_of rs q) q.clock k row (s.enough.now k row) e t in
        let ran : after ≡ on_alternate before
        = ap (λ (v : Work). job_at (worked v rep rs q.jobs) k) (holder_runs rs q k w row t al) ∙ worked_here_alternate rep rs q.jobs k place in
        omega (arith, ap (λ (j : Job). j.left) ran, (alternate_units before).1, claims_left, one))
        (λ (t : takes (ends rs) (claims_of rs q) k q.clock ≡ false).
        omega (arith, left_less, claims_left, met win (claims_of rs q) q.clock k row (s.enough.now k row) e t))
        (split (takes (ends rs) (claims_of rs q) k q.clock))
