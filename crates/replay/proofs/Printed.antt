-- What is printed chunk by chunk, all together, is what the one list that the chunks are says.
-- Assumes nothing.
use Rattle.std.specs.Prelude.{None}
use mathlib.Core.Path.{◌≡◌, sym, ap, ap₂, ◌∙◌}
use mathlib.Core.List.{List, [], ◌∷◌, ◌++◌, append_assoc, append-nil}
use Prim.Native.Nat.{ℕ}
use native.Mathlib.Nat.{zero-add}
use lib.ListN.{length}
use Rattle.table.specs.declared.Table.{Table}
use Rattle.table.specs.Rows.{used}
use Rattle.reserve.specs.Check.{table_refusal}
use Rattle.slots.specs.Records.{fresh_record}
use Rattle.slots.specs.Reports.{Outcome}
use Rattle.slots.proofs.RunFacts.{run_none}
use Rattle.replay.specs.declared.Progress.{Progress}
use Rattle.replay.specs.Chunks.{replay_of, replay_log, start_of, onward_of, chunk_log, joined}
use Rattle.replay.specs.Lines.{log_lines, replay_lines, chunk_lines, chunks_lines}
use Rattle.replay.proofs.SlotLines.{lines_joined}
use Rattle.replay.proofs.Chunks.{replay_slots, replay_none, onward_joined, log_joined}

module _ (t : Table) (z : table_refusal t ≡ None) where
  -- one more chunk's lines follow those of the slots before
  lines_on : (xs ys : List ℕ) → log_lines 0 (replay_log t xs) ++ chunk_lines t (replay_of t xs) ys ≡ log_lines 0 (replay_log t (xs ++ ys))
  unfolding chunk_lines
  lines_on xs ys =
      let log : List ℕ = replay_log t xs in
      ap (λ (s : ℕ). log_lines 0 log ++ log_lines s (chunk_log t (replay_of t xs) ys)) (replay_slots t z xs ∙ sym (zero-add (length log)))
      ∙ sym (lines_joined 0 log (chunk_log t (replay_of t xs) ys))
      ∙ ap (log_lines 0) (log_joined t z xs ys)

  lines_list : (xs : List ℕ) (chunks : List (List ℕ)) → log_lines 0 (replay_log t xs) ++ chunks_lines t (replay_of t xs) chunks ≡ replay_lines t (xs ++ joined chunks)
  unfolding chunks_lines joined replay_lines
  lines_list xs [] = ap (replay_lines t) (sym (append-nil xs))
  lines_list xs (chunk ∷ chunks) =
      sym (append_assoc (log_lines 0 (replay_log t xs)) (chunk_lines t (replay_of t xs) chunk) (chunks_lines t (onward_of t (replay_of t xs) chunk) chunks))
      ∙ ap₂ ◌++◌ (lines_on xs chunk) (ap (λ (p : Progress). chunks_lines t p chunks) (onward_joined t z xs chunk))
      ∙ lines_list (xs ++ chunk) chunks
      ∙ ap (replay_lines t) (append_assoc xs chunk (joined chunks))

  -- however the list is cut into chunks, the same text is printed
  pub lines_of_chunks : (chunks : List (List ℕ)) → chunks_lines t (start_of t) chunks ≡ replay_lines t (joined chunks)
  unfolding replay_log log_lines
  lines_of_chunks chunks =
      ap (λ (p : Progress). chunks_lines t p chunks) (replay_none t z)
      ∙ ap (λ (o : Outcome). log_lines 0 o.log ++ chunks_lines t (replay_of t []) chunks) (sym (run_none (used t) (fresh_record t)))
      ∙ lines_list [] chunks
