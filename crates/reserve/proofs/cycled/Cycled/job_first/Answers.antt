-- `reserve::cycled::Cycled::job_first` meets its contract: the window is within the cycle, and the list tells its holder.
use native.Mathlib.Omega.{arith}
use Rattle.reserve.proofs.Ready.{cycle_fits}
use Rattle.reserve.proofs.Scanning.{window_fits, job_first}
use Rattle.reserve.proofs.cycled.Cycled.job_first.Goals as goal

pub overflow_mul-w : goal.overflow_mul-w
overflow_mul-w c = omega (arith, cycle_fits c.args.self.now.ready, window_fits c.args.self.now.ready c.rows.ensures.rows _ c.requires.0 _ c.requires.1)

pub overflow_add-w : goal.overflow_add-w
overflow_add-w c = omega (arith, cycle_fits c.args.self.now.ready, window_fits c.args.self.now.ready c.rows.ensures.rows _ c.requires.0 _ c.requires.1)

pub first_held-requires : goal.first_held-requires
first_held-requires c = (omega arith, omega (arith, c.requires.2.room, window_fits c.args.self.now.ready c.rows.ensures.rows _ c.requires.0 _ c.requires.1))

pub returns : goal.returns
returns c = job_first c.args.self.now.ready c.rows.ensures.rows _ c.requires.0 _ c.requires.2 _ _ c.requires.1 c.first_held.ensures
