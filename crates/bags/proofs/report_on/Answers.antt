-- `bags::report_on` meets its contract.
use native.Mathlib.Omega.{arith}
use Rattle.bags.proofs.Parts.{rows_few}
use Rattle.bags.proofs.report_on.Goals as goal

pub slice_bounds-marks-end : goal.slice_bounds-marks-end
slice_bounds-marks-end c = omega arith

pub print_report-requires : goal.print_report-requires
print_report-requires c = search (rows_few)
