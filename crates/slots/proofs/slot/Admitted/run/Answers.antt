-- `slots::slot::Admitted::run` meets its contract.
use Rattle.slots.proofs.AnswerCases.{ran_room, log_room, buffer_room, ran_done, log_done, buffer_done}
use Rattle.slots.proofs.slot.Admitted.run.Goals as goal

pub returns-then-lacks_room-clause-answer : goal.returns-then-lacks_room-clause-answer
returns-then-lacks_room-clause-answer c = search (ran_room)

pub returns-then-lacks_room-clause-bytes : goal.returns-then-lacks_room-clause-bytes
returns-then-lacks_room-clause-bytes c = search (log_room)

pub returns-then-lacks_room-clause-kept : goal.returns-then-lacks_room-clause-kept
returns-then-lacks_room-clause-kept c = search (buffer_room)

pub returns-clause-answer : goal.returns-clause-answer
returns-clause-answer c = ran_done c.args.self.steady _ _ _ _ c.lacks_room.ensures c.if-lacks_room.false _ _ c.course-course.ensures.course

pub returns-clause-bytes : goal.returns-clause-bytes
returns-clause-bytes c = log_done c.args.self.steady _ _ _ _ c.lacks_room.ensures c.if-lacks_room.false _ _ c.course-course.ensures.course

pub returns-clause-kept : goal.returns-clause-kept
returns-clause-kept c = buffer_done c.args.self.steady _ _ _ _ c.lacks_room.ensures c.if-lacks_room.false _ _ c.course-course.ensures.course _ c.course-course.ensures.kept
