-- The loop over the chunks: at each turn there is one list of reports that gives what has been reached over a fresh start. Before it the table file is read.
-- Assumes nothing.
use Rattle.std.specs.Prelude.{None}
use mathlib.Core.Path.{◌≡◌, sym, ap, ◌∙◌}
use mathlib.Core.List.{List, [], ◌++◌}
use Prim.Native.Nat.{ℕ, ◌+◌, ◌≤◌, ◌<◌}
use native.Mathlib.Omega.{arith}
use lib.ListN.{length, take, get_or, length-append}
use lib.Seq.{get_or-take}
use Rattle.table.specs.declared.Table.{Table}
use Rattle.reserve.specs.Check.{table_refusal}
use Rattle.tablefile.specs.Layout.{word_at, length_field}
use Rattle.replay.specs.declared.Progress.{Progress}
use Rattle.replay.specs.Chunks.{start_of, onward_of}
use Rattle.replay.specs.Turns.{Replayed}
use Rattle.replay.proofs.Chunks.{replay_none, onward_joined}

-- ---- the table file: its length field stays where its two bytes do
pub field_kept : (new old : List ℕ) → take 2 new ≡ take 2 old → length_field new ≡ length_field old
unfolding word_at
field_kept new old e =
    let byte : (i : ℕ) → i < 2 → get_or new i 0 ≡ get_or old i 0 = λ i l. sym (get_or-take 2 new i 0 l) ∙ ap (λ (l : List ℕ). get_or l i 0) e ∙ get_or-take 2 old i 0 l in
    omega (arith, byte 0 (omega arith), byte 1 (omega arith))

-- ---- chunk after chunk, each of at most 1,024 reports: there is still one list of them
module _ {t : Table} (z : table_refusal t ≡ None) where
  pub replayed_start : (p : Progress) → p ≡ start_of t → Replayed t 0 p
  replayed_start p e = record { reports = []; few = omega arith; gives = e ∙ replay_none t z }

  pub replayed_more : {most more : ℕ} {p : Progress} → Replayed t most p → most + 1024 ≤ more → (read : List ℕ) → length read ≤ 1024
      → (after : Progress) → after ≡ onward_of t p read → Replayed t more after
  replayed_more g m read l after h = record {
    reports = g.reports ++ read;
    few = omega (arith, g.few, length-append g.reports read);
    gives = h ∙ ap (λ (r : Progress). onward_of t r read) g.gives ∙ onward_joined t z g.reports read;
  }
