-- The lines after those of the slots, as the code lays them.
-- Assumes nothing.
use Rattle.std.specs.Prelude.{None, Some}
use mathlib.Core.Path.{◌≡◌, refl, ap, ap₂, ◌∙◌}
use mathlib.Core.List.{List, ◌++◌}
use Prim.Native.Nat.{ℕ, zero, suc, ◌+◌, ◌*◌, ◌≤◌}
use native.Mathlib.Numerals.{add-one}
use native.Mathlib.Omega.{arith}
use lib.ListN.{length, take}
use lib.Seq.{get_or-take, length-take-le}
use Rattle.refusal.specs.declared.Refusal.{Refusal}
use Rattle.refusal.specs.Numbers.{number_of, row_of}
use Rattle.slots.specs.declared.Job.{Job}
use Rattle.slots.specs.Records.{job_at}
use Rattle.replay.specs.declared.Progress.{Progress}
use Rattle.replay.specs.Texts.{named}
use Rattle.replay.specs.Lines.{ran_line, cause_text, refused_line, row_line, row_lines, end_line}
use Rattle.replay.specs.Turns.{Laid}
use Rattle.replay.proofs.Laying.{laid_then, laid_is}

module _ {old new : List ℕ} {at e : ℕ} where
  -- ---- a refusal's number and its row
  pub cause_laid : (f : Refusal) (number row : ℕ) → number ≡ number_of f → row ≡ row_of f
      → Laid old at (named "refused " number ++ named " row " row) new e → Laid old at (cause_text f) new e
  unfolding cause_text
  cause_laid f number row h k g = laid_is (ap₂ (λ (n r : ℕ). named "refused " n ++ named " row " r) h k) g

  -- ---- how the list ended
  module _ (p : Progress) where
    pub ran_laid : p.refusal ≡ None → Laid old at (ran_line p.slots p.lost) new e → Laid old at (end_line p) new e
    unfolding end_line
    ran_laid d g = rw d g

    pub refused_laid : (f : Refusal) → p.refusal ≡ Some f → Laid old at (refused_line f p.slots) new e → Laid old at (end_line p) new e
    unfolding end_line
    refused_laid f d g = rw d g

-- ---- the lines of the first i rows are laid
pub record Rowed (old : List ℕ) (from : ℕ) (jobs : List Job) (new : List ℕ) (at i : ℕ) : Type 0 where
  pub laid : Laid old from (row_lines jobs i) new at
  pub room : at ≤ from + 81 * i

pub rowed_start : (old : List ℕ) (from : ℕ) (jobs : List Job) → from ≤ length old → Rowed old from jobs old from 0
unfolding row_lines
rowed_start old from jobs l = record { laid = record { bytes = refl; ends = omega arith; fits = l; same = refl }; room = omega arith }

module _ {old : List ℕ} {from : ℕ} {jobs : List Job} {new : List ℕ} {at i : ℕ} (g : Rowed old from jobs new at i) where
  one_more : row_lines jobs i ++ row_line (i + 1) (job_at jobs i) ≡ row_lines jobs (i + 1)
  unfolding row_lines
  one_more = rw add-one refl

  pub rowed_step : {out : List ℕ} {e : ℕ} → Laid new at (row_line (i + 1) (job_at jobs i)) out e → e ≤ at + 81 → Rowed old from jobs out e (i + 1)
  rowed_step f s = record { laid = laid_is one_more (laid_then g.laid f); room = omega (arith, g.room) }

-- ---- the first n rows, taken apart, have the same lines
rows_taken : (jobs : List Job) (n m : ℕ) → m ≤ n → row_lines (take n jobs) m ≡ row_lines jobs m
unfolding row_lines
rows_taken jobs n zero l = refl
rows_taken jobs n (suc m) l =
    ap₂ (λ (x : List ℕ) (j : Job). x ++ row_line (suc m) j) (rows_taken jobs n m (omega arith)) (get_or-take n jobs m _ (omega arith))

pub rows_laid : {old : List ℕ} {from : ℕ} {new : List ℕ} {e : ℕ} → (jobs : List Job) (n : ℕ) → n ≤ length jobs
    → Laid old from (row_lines (take n jobs) (length (take n jobs))) new e → Laid old from (row_lines jobs n) new e
rows_laid jobs n l g = laid_is (ap (row_lines (take n jobs)) (length-take-le n jobs l) ∙ rows_taken jobs n n (omega arith)) g
