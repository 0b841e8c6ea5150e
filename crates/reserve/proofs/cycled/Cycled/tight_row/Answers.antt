-- `reserve::cycled::Cycled::tight_row` meets its contract.
use Rattle.reserve.proofs.Sweeps.{tight_fresh}
use Rattle.reserve.proofs.cycled.Cycled.tight_row.Goals as goal

pub returns : goal.returns
returns c = tight_fresh c.args.self.now.ready _ c.alternates.ensures c.down.ensures.1
