-- `bagreport::marks::put_job` meets its contract.
use Rattle.bagreport.proofs.Marking.{put_at}
use Rattle.bagreport.proofs.marks.put_job.Goals as goal

pub returns-then-spans-bag-clause-bytes : goal.returns-then-spans-bag-clause-bytes
returns-then-spans-bag-clause-bytes c = search (put_at)
