-- `vectors::called::call_bags` meets its contract.
use Rattle.bagreport.proofs.ShareNumbers.{report_numbers}
use Rattle.vectors.proofs.called.call_bags.Goals as goal

pub shares-requires : goal.shares-requires
shares-requires c = report_numbers _ _ _ _ _ _ c.report-got.ensures.answer
