-- `slots::listed::run_stretches` meets its contract.
use mathlib.Core.Path.{sym, ◌∙◌}
use native.Mathlib.Omega.{arith}
use borrow.Author.Rules.{rules}
use Rattle.slots.proofs.Renewals.{renewal_period, renewal_small, renewal_room, renewal_step}
use Rattle.slots.proofs.Stretches.{stretch_holder, stretch_lowest, stretch_place, stretch_run, stretch_member, stretching_step}
use Rattle.slots.proofs.KeptRun.{coursing_start, course_ends, course_lost, opening_begins, stale_steady, stale_room, stale_buffer, coursing_step, stop_kept, stop_answer, stop_lost}
use Rattle.slots.proofs.listed.run_stretches.Goals as goal

pub loop-i-init : goal.loop-i-init
loop-i-init c = coursing_start c.requires (search rules) (omega arith) _ (omega arith) _

pub decide-requires : goal.decide-requires
decide-requires c = (stretch_holder c.loop-i-2.invariant c.loop-i-2-test.true, stretch_lowest c.loop-i-2.invariant c.loop-i-2-test.true)

pub bounds-t-at : goal.bounds-t-at
bounds-t-at c = stretch_place c.loop-i-2.invariant c.loop-i-2-test.true _ (sym c.decide.ensures ∙ c.in-Ok.is)

pub bounds-jobs-at : goal.bounds-jobs-at
bounds-jobs-at c = stretch_place c.loop-i-2.invariant c.loop-i-2-test.true _ (sym c.decide.ensures ∙ c.in-Ok.is)

pub act-moved-requires : goal.act-moved-requires
act-moved-requires c = (stretch_run c.loop-i-2.invariant c.loop-i-2-test.true _ (sym c.decide.ensures ∙ c.in-Ok.is), stretch_place c.loop-i-2.invariant c.loop-i-2-test.true _ (sym c.decide.ensures ∙ c.in-Ok.is), stretch_member c.loop-i-2.invariant c.loop-i-2-test.true _ (sym c.decide.ensures ∙ c.in-Ok.is))

pub bounds-jobs-at-in-Ok : goal.bounds-jobs-at-in-Ok
bounds-jobs-at-in-Ok c = stretch_place c.loop-i-2.invariant c.loop-i-2-test.true _ (sym c.decide.ensures ∙ c.in-Ok.is)

pub loop-i-2-preserved : goal.loop-i-2-preserved
loop-i-2-preserved c = let e = sym c.decide.ensures ∙ c.in-Ok.is in search (stretching_step)

pub returns-in-Err-clause-course : goal.returns-in-Err-clause-course
returns-in-Err-clause-course c = stop_answer c.loop-i-2.invariant c.loop-i.invariant c.loop-i-2-test.true _ (sym c.decide.ensures ∙ c.in-Err.is)

pub returns-in-Err-clause-lost : goal.returns-in-Err-clause-lost
returns-in-Err-clause-lost c = stop_lost _ _ _

pub returns-in-Err-clause-kept : goal.returns-in-Err-clause-kept
returns-in-Err-clause-kept c = stop_kept c.loop-i-2.invariant c.loop-i.invariant c.loop-i-2-test.true

pub loop-k-init : goal.loop-k-init
loop-k-init c = opening_begins c.loop-i-2.invariant _ c.wrapped-clock.ensures

pub come-job-requires : goal.come-job-requires
come-job-requires c = renewal_period c.loop-k.invariant c.loop-k-test.true

pub joined-waiting-requires : goal.joined-waiting-requires
joined-waiting-requires c = renewal_room c.loop-k.invariant c.loop-k-test.true

pub window_end-requires : goal.window_end-requires
window_end-requires c = (renewal_period c.loop-k.invariant c.loop-k-test.true, renewal_small c.loop-k.invariant c.loop-k-test.true)

pub loop-k-preserved : goal.loop-k-preserved
loop-k-preserved c = search (renewal_step)

pub keep-requires : goal.keep-requires
keep-requires c = (stale_steady c.loop-i-2.invariant _ c.wrapped-clock.ensures c.loop-k.invariant c.loop-k-test.false c.loop-i-2-test.false, stale_room c.loop-i-2.invariant _ c.wrapped-clock.ensures c.loop-k.invariant c.loop-k-test.false c.loop-i-2-test.false, stale_buffer c.loop-i-2.invariant _ c.wrapped-clock.ensures c.loop-k.invariant c.loop-k-test.false c.loop-i-2-test.false)

pub loop-i-preserved : goal.loop-i-preserved
loop-i-preserved c = coursing_step c.loop-i-2.invariant _ c.wrapped-clock.ensures c.loop-k.invariant c.loop-k-test.false c.loop-i-2-test.false c.loop-i.invariant c.keep.ensures

pub returns-clause-course : goal.returns-clause-course
returns-clause-course c = course_ends c.loop-i.invariant c.loop-i-test.false

pub returns-clause-lost : goal.returns-clause-lost
returns-clause-lost c = (λ _. course_lost c.loop-i.invariant c.loop-i-test.false)
