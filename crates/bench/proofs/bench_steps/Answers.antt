-- `bench::bench_steps` meets its contract.
use native.Mathlib.Omega.{arith}
use Rattle.std.proofs.Common.{rules}
use Rattle.bench.proofs.OneByOne.{going_step, stops_slots, stops_log, full_slots, full_log, ends_slots, ends_log}
use Rattle.bench.proofs.bench_steps.Goals as goal

pub bounds-log-i : goal.bounds-log-i
bounds-log-i c = omega arith

pub returns-then-log-i-clause-slots : goal.returns-then-log-i-clause-slots
returns-then-log-i-clause-slots c = search (rules, full_slots)

pub returns-then-log-i-clause-bytes : goal.returns-then-log-i-clause-bytes
returns-then-log-i-clause-bytes c = search (rules, full_log)

pub returns-then-is_some-clause-slots : goal.returns-then-is_some-clause-slots
returns-then-is_some-clause-slots c = search (stops_slots)

pub returns-then-is_some-clause-bytes : goal.returns-then-is_some-clause-bytes
returns-then-is_some-clause-bytes c = search (stops_log)

pub loop-i-preserved : goal.loop-i-preserved
loop-i-preserved c = search (rules, going_step)

pub returns-clause-slots : goal.returns-clause-slots
returns-clause-slots c = search (ends_slots)

pub returns-clause-bytes : goal.returns-clause-bytes
returns-clause-bytes c = search (ends_log)
