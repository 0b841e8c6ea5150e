-- `replay::chunk::put_chunk` meets its contract.
use mathlib.Core.Path.{sym}
use Rattle.replay.proofs.ChunkCases.{slots_rise, log_room, lines_count, lines_laid}
use borrow.Author.Rules.{rules}
use Rattle.replay.proofs.chunk.put_chunk.Goals as goal

pub overflow_sub-count : goal.overflow_sub-count
overflow_sub-count c = search (slots_rise)

pub slice_bounds-log-end : goal.slice_bounds-log-end
slice_bounds-log-end c = log_room _ _ _ _ c.onward-after.ensures.answer _ _ c.onward-after.ensures.bytes (search rules)

pub slice_bounds-put_lines-end : goal.slice_bounds-put_lines-end
slice_bounds-put_lines-end c = sym (lines_count _ _ _ _ c.onward-after.ensures.answer _ _ c.onward-after.ensures.bytes)

pub returns-clause-text : goal.returns-clause-text
returns-clause-text c = search (lines_laid)
