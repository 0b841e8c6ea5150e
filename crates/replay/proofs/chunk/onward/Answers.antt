-- `replay::chunk::onward` meets its contract.
use Rattle.replay.proofs.ChunkCases.{slots_room, lost_room, onward_none, log_none, onward_refused, log_refused}
use Rattle.replay.proofs.chunk.onward.Goals as goal

pub moved-requires : goal.moved-requires
moved-requires c = (search (slots_room), search (lost_room))

pub returns-in-None-clause-answer : goal.returns-in-None-clause-answer
returns-in-None-clause-answer c = search (onward_none)

pub returns-in-None-clause-bytes : goal.returns-in-None-clause-bytes
returns-in-None-clause-bytes c = search (log_none)

pub returns-in-Some-clause-answer : goal.returns-in-Some-clause-answer
returns-in-Some-clause-answer c = search (onward_refused)

pub returns-in-Some-clause-bytes : goal.returns-in-Some-clause-bytes
returns-in-Some-clause-bytes c = search (log_refused)
