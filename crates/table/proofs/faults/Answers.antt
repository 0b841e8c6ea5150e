-- `table::faults` meets its contract.
use Rattle.std.proofs.Common.{rules}
use Rattle.table.proofs.FaultCases.{faults_go, faults_stop, faults_end}
use Rattle.table.proofs.faults.Goals as goal

pub returns-in_err-fault : goal.returns-in_err-fault
returns-in_err-fault c = search (rules, faults_stop)

pub loop-i-preserved : goal.loop-i-preserved
loop-i-preserved c = search (rules, faults_go)

pub returns : goal.returns
returns c = search (faults_end)
