-- What a record claims: in the clock's window what is left of each job, and for a new job what the table claims.
-- Assumes nothing.
use mathlib.Core.Path.{◌≡◌, sym, ap, ◌∙◌}
use mathlib.Core.Bool.{true}
use mathlib.Core.List.{List}
use Prim.Native.Nat.{ℕ, ◌≤◌, ◌<◌}
use lib.ListN.{length, get_or}
use Rattle.table.specs.declared.Row.{Row}
use Rattle.table.specs.Rows.{row_at}
use Rattle.table.specs.Windows.{starts}
use Rattle.table.proofs.Windows.{start_wants}
use Rattle.rule.proofs.Moves.{claim_now}
use Rattle.reserve.specs.Tables.{ends, whole, claims}
use Rattle.reserve.specs.Turns.{Unspent}
use Rattle.reserve.proofs.Tables.{AllGood, windows_of}
use Rattle.slots.specs.declared.Job.{Job}
use Rattle.slots.specs.declared.Record.{Record}
use Rattle.slots.specs.Records.{new_job, job_at}
use Rattle.slots.specs.Sound.{lefts, claims_of}
use Rattle.slots.proofs.JobFacts.{new_job_lem}
use Rattle.slots.proofs.Entries.{lefts_at}

-- what is left of row i's job
abbrev pub left_at : List Job → ℕ → ℕ
left_at js i = get_or (lefts js) i 0

module _ (rs : List Row) (good : AllGood rs) where
  pub claim_current : (q : Record) (i : ℕ) → i < length rs → (s : ℕ) → q.clock ≤ s → s < ends rs i q.clock → claims_of rs q i s ≡ (job_at q.jobs i).left
  unfolding claims_of claims
  claim_current q i row s b u = claim_now (windows_of rs good) (whole rs) q.clock (left_at q.jobs) i row s b u ∙ lefts_at q.jobs i

  -- a new job has left what the table claims for it
  pub left_new : (js : List Job) (i c : ℕ) → i < length rs → starts (row_at rs i) c ≡ true → job_at js i ≡ new_job (row_at rs i) → left_at js i ≡ whole rs i c
  unfolding whole
  left_new js i c row h e =
      lefts_at js i ∙ ap (λ (j : Job). j.left) e ∙ (new_job_lem (row_at rs i)).2 ∙ sym (start_wants (row_at rs i) (good i row) c h)

  -- where each row's job is new, nothing is done of any
  pub new_unspent : (js : List Job) → ((i : ℕ) → i < length rs → job_at js i ≡ new_job (row_at rs i)) → Unspent rs (lefts js)
  new_unspent js new i row = lefts_at js i ∙ ap (λ (j : Job). j.left) (new i row) ∙ (new_job_lem (row_at rs i)).2
