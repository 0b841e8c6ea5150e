-- `bagreport::pass::run_chunk` meets its contract.
use borrow.Author.Rules.{rules}
use Rattle.bagreport.proofs.ChunkRuns.{chunk_stopped, chunk_next, chunk_told}
use Rattle.bagreport.proofs.pass.run_chunk.Goals as goal

pub returns-clause-stopped : goal.returns-clause-stopped
returns-clause-stopped c = let pre = c.requires in
    let called = c.run.ensures in chunk_stopped pre.0 _ pre.1 _ _ pre.2 pre.3 _ called.answer

pub returns-clause-next : goal.returns-clause-next
returns-clause-next c = let pre = c.requires in
    let called = c.run.ensures in chunk_next pre.0 _ pre.1 _ _ pre.2 pre.3 _ called.answer

pub returns-clause-told : goal.returns-clause-told
returns-clause-told c = let pre = c.requires in
    let called = c.run.ensures in chunk_told pre.0 _ pre.1 _ _ pre.2 pre.3 _ called.answer _ called.bytes (search rules)
