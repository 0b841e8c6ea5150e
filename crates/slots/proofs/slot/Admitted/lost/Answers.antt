-- `slots::slot::Admitted::lost` meets its contract.
use Rattle.std.proofs.Common.{rules}
use Rattle.slots.proofs.LostAnswers.{lost_room, lost_told}
use Rattle.slots.proofs.slot.Admitted.lost.Goals as goal

pub course-course-requires : goal.course-course-requires
course-course-requires c = lost_room c.args.self.steady

pub returns : goal.returns
returns c = search (rules, lost_told)
