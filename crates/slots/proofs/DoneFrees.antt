-- A done frees what its job had reserved: the claims of the next record are those from before, but for the finished job's.
-- Assumes nothing.
use mathlib.Core.Path.{◌≡◌, refl, sym, ap, ◌∙◌, subst}
use mathlib.Core.Logic.{◌≢◌}
use mathlib.Core.List.{List}
use Prim.Native.Nat.{ℕ, suc, ◌<◌}
use native.Mathlib.Omega.{arith}
use borrow.Author.Tests.{ne_eqb}
use lib.ListN.{length, get_or}
use Rattle.table.specs.declared.Row.{Row}
use Rattle.table.specs.Rows.{row_at, cycle_of}
use Rattle.rule.proofs.Moves.{next_now, same_claim}
use Rattle.reserve.specs.Tables.{ends, whole, claims}
use Rattle.reserve.proofs.Tables.{windows_of, claims_of_lem}
use Rattle.slots.specs.declared.Job.{Job}
use Rattle.slots.specs.declared.Record.{Record}
use Rattle.slots.specs.Sound.{claims_of}
use Rattle.slots.specs.OneSlot.{primary, holder_at, worked, renewed, step_by}
use Rattle.slots.specs.History.{is_primary, is_alternate}
use Rattle.slots.specs.Buffer.{Freed}
use Rattle.slots.specs.Records.{job_at}
use Rattle.slots.proofs.JobFacts.{primary_done}
use Rattle.slots.proofs.Entries.{lefts_at, worked_here_primary, worked_other, worked_length}
use Rattle.slots.proofs.SoundRecord.{Usable, Sound}
use Rattle.slots.proofs.RecordClaims.{left_at}
use Rattle.slots.proofs.NextRecord.{next_goes, step_at, goes_on, turns_new}

module _ (rs : List Row) (ok : Usable rs) (q : Record) (s : Sound rs q) (k : ℕ) (row : k < length rs) (on : suc q.clock < cycle_of rs) where
  -- the entries after the unit that is reported done
  abbrev js : List Job
  js = worked (primary k) 1 rs q.jobs

  sixteen : length js ≡ 16
  sixteen = worked_length 1 rs q.jobs (primary k) ∙ s.sixteen

  none_left : left_at js k ≡ 0
  none_left =
      lefts_at js k
      ∙ ap (λ (j : Job). j.left) (worked_here_primary 1 rs q.jobs k (omega (arith, row, ok.few, s.sixteen)))
      ∙ (primary_done (row_at rs k) (job_at q.jobs k)).1

  others_left : (i : ℕ) → i ≢ k → left_at js i ≡ left_at q.jobs i
  unfolding is_primary is_alternate
  others_left i ne =
      lefts_at js i ∙ ap (λ (j : Job). j.left) (worked_other 1 rs q.jobs (primary k) i (ne_eqb k i (λ e. ne (sym e))) refl) ∙ sym (lefts_at q.jobs i)

  next_is : step_by rs q (primary k) 1 ≡ record { clock = suc q.clock; jobs = renewed (suc q.clock) rs js }
  next_is = step_at rs q (primary k) 1 (suc q.clock) (next_goes (cycle_of rs) q.clock on)

  pub done_frees : (kept : List ℕ) → ((t : ℕ) → q.clock < t → t < cycle_of rs → get_or kept t 0 ≡ holder_at rs q t)
      → Freed rs (cycle_of rs) (step_by rs q (primary k) 1) k (ends rs k q.clock) kept
  unfolding claims_of claims holder_at
  done_frees kept bytes =
      subst (λ (p : Record). Freed rs (cycle_of rs) p k (ends rs k q.clock) kept) (sym next_is)
      (record {
        K = claims_of rs q;
        is_row = row;
        freed = λ t l u.
            next_now (windows_of rs ok.good) (whole rs) (claims_of_lem rs ok.good) q.clock (left_at q.jobs) (left_at js) (left_at (renewed (suc q.clock) rs js))
            (goes_on rs ok q.clock js sixteen) (turns_new rs ok q.clock js sixteen) k row t l u
            ∙ none_left;
        others = λ i t r l h.
            same_claim (windows_of rs ok.good) (whole rs) (claims_of_lem rs ok.good) q.clock (left_at q.jobs) (left_at js) (left_at (renewed (suc q.clock) rs js))
            (goes_on rs ok q.clock js sixteen) (turns_new rs ok q.clock js sixteen) i t r l
            (λ v. others_left i (λ e. omega (arith, h e, ap (λ (n : ℕ). ends rs n q.clock) e)));
        bytes = λ t l u. bytes t l u;
      })
