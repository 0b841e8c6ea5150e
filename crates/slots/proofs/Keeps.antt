-- A slot that is not a done keeps the reservations: within the cycle every later slot has the holder that it had.
-- Assumes nothing.
use mathlib.Core.Path.{◌≡◌, refl, sym, ap, ◌∙◌, subst}
use mathlib.Core.Logic.{◌≢◌, ⊎_elim}
use mathlib.Core.List.{List}
use Prim.Native.Nat.{ℕ, zero, suc, ◌<◌}
use native.Mathlib.Omega.{arith}
use lib.ListN.{length}
use Rattle.table.specs.declared.Row.{Row}
use Rattle.table.specs.Rows.{row_at, cycle_of}
use Rattle.rule.proofs.Moves.{keeps_holder_quiet, keeps_holder_ran}
use Rattle.reserve.specs.Tables.{whole, claims}
use Rattle.reserve.proofs.Tables.{windows_of, claims_of_lem}
use Rattle.slots.specs.declared.Job.{Job}
use Rattle.slots.specs.declared.Record.{Record}
use Rattle.slots.specs.Records.{job_at}
use Rattle.slots.specs.Sound.{claims_of}
use Rattle.slots.specs.OneSlot.{Work, primary, holder_at, worked, renewed, step_by}
use Rattle.slots.specs.Allowed.{Free, Suits, Allowed}
use Rattle.slots.proofs.Acts.{Act, rests, tries, falls_back}
use Rattle.slots.proofs.JobFacts.{primary_cases}
use Rattle.slots.proofs.Entries.{lefts_at, worked_length}
use Rattle.slots.proofs.SoundRecord.{Usable, Sound}
use Rattle.slots.proofs.RecordClaims.{left_at}
use Rattle.slots.proofs.SlotActs.{holds, the_holder, act_of}
use Rattle.slots.proofs.NextRecord.{next_goes, step_at, goes_on, turns_new, one_less, others_same}

module _ (rs : List Row) (ok : Usable rs) (q : Record) (w : Work) (rep : ℕ) (al : Allowed rs q w) (s : Sound rs q) (not_done : (k : ℕ) → w ≡ primary k → rep ≢ 1) where
  -- the entries after the slot's unit
  abbrev js : List Job
  js = worked w rep rs q.jobs

  sixteen : length js ≡ 16
  sixteen = worked_length rep rs q.jobs w ∙ s.sixteen

  -- in a slot that no row holds each job keeps what it has left
  same_left : Free rs q.jobs w → (i : ℕ) → i < length rs → left_at js i ≡ left_at q.jobs i
  same_left o i row = lefts_at js i ∙ go (act_of rs ok q s i row rep w al) ∙ sym (lefts_at q.jobs i)
    where
      go : Act i w rep (row_at rs i) (job_at q.jobs i) (job_at js i) → (job_at js i).left ≡ (job_at q.jobs i).left
      go (rests a b e) = ap (λ (j : Job). j.left) e
      go (tries a b e) =
          ⊎_elim (λ d. absurd (not_done i a d)) (λ d. ap (λ (j : Job). j.left) e ∙ d.0) (primary_cases rep (row_at rs i) (job_at q.jobs i))
      go (falls_back a b e) = absurd (subst (Free rs q.jobs) a o)

  pub keeps_holder : (t : ℕ) → q.clock < t → t < cycle_of rs → holder_at rs (step_by rs q w rep) t ≡ holder_at rs q t
  unfolding Allowed holder_at claims_of claims
  keeps_holder t u v =
      ap (λ (p : Record). holder_at rs p t) (step_at rs q w rep (suc q.clock) (next_goes (cycle_of rs) q.clock (omega arith)))
      ∙ go (holder_at rs q q.clock) refl al
    where
      go : (h : ℕ) → holder_at rs q q.clock ≡ h → Suits rs q.jobs h w
          → holder_at rs (record { clock = suc q.clock; jobs = renewed (suc q.clock) rs js }) t ≡ holder_at rs q t
      go zero e o =
          keeps_holder_quiet
          (windows_of rs ok.good)
          (whole rs)
          (claims_of_lem rs ok.good)
          q.clock
          (left_at q.jobs)
          (left_at js)
          (left_at (renewed (suc q.clock) rs js))
          (goes_on rs ok q.clock js sixteen)
          (turns_new rs ok q.clock js sixteen)
          (same_left o)
          t
          u
      go (suc r) e o =
          let found : (r < length rs) × holds rs q r q.clock = the_holder rs q q.clock r e in
          keeps_holder_ran
          (windows_of rs ok.good)
          (whole rs)
          (claims_of_lem rs ok.good)
          q.clock
          (left_at q.jobs)
          (left_at js)
          (left_at (renewed (suc q.clock) rs js))
          (goes_on rs ok q.clock js sixteen)
          (turns_new rs ok q.clock js sixteen)
          r
          found.0
          found.1
          (one_less rs q.jobs r w o rep (omega (arith, found.0, ok.few, s.sixteen)))
          (λ i row. others_same rs q.jobs r w o rep i)
          t
          u
