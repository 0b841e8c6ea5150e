-- What private functions say of their work.
-- Assumes nothing: these are definitions.
use Rattle.std.specs.Prelude.{◌≡◌, List, ℕ, ◌+◌, ◌≤◌, length}
use Rattle.std.proofs.lemmas.List.Edits.{sets}
use Rattle.table.specs.declared.Table.{Table}
use Rattle.replay.specs.declared.Progress.{Progress}
use Rattle.replay.specs.Chunks.{replay_of}

-- a text has been laid, whole, into a buffer that held `old`, from a place on, and ends before another; the buffer keeps its length
pub record Laid (old : List ℕ) (at : ℕ) (text new : List ℕ) (end : ℕ) : Type 0 where
  pub bytes : new ≡ sets old at text
  pub ends : end ≡ at + length text
  pub fits : end ≤ length old
  pub same : length new ≡ length old

-- there is one list of at most `most` reports that gives this over a fresh start
pub record Replayed (t : Table) (most : ℕ) (p : Progress) : Type 0 where
  pub reports : List ℕ
  pub few : length reports ≤ most
  pub gives : p ≡ replay_of t reports
