-- `slots::awaited::awaited_rows` meets its contract.
use Rattle.slots.proofs.SetLaws.{members_are}
use Rattle.slots.proofs.awaited.awaited_rows.Goals as goal

pub returns : goal.returns
returns c = search (members_are)
