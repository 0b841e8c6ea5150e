-- `bags::order_room` meets its contract.
use Rattle.bags.proofs.Parts.{room_is}
use Rattle.bags.proofs.order_room.Goals as goal

pub returns : goal.returns
returns c = room_is 1081926 0
