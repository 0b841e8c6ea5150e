-- `slots::slot::all_fit` meets its contract.
use mathlib.Core.Path.{◌≡◌}
use mathlib.Core.Bool.{true, false}
use native.Mathlib.Omega.{arith}
use borrow.Author.Rules.{rules}
use Rattle.std.proofs.lemmas.Iterator.{cases_from_all, YieldsList-from_slice, YieldsList-from_zip}
use Rattle.slots.specs.Sound.{job_fits}
use Rattle.slots.proofs.EntryLoops.{fits_each}
use Rattle.slots.proofs.slot.all_fit.Goals as goal

pub returns : goal.returns
returns c =
    let rs = c.rows.result.now in
    let js = c.args.jobs in
    rw (← c.rows.ensures.rows)
    (fits_each rs js (omega arith) _
    (cases_from_all c.all.new.self _ _ (λ p. job_fits p.0 p.1 ≡ true) (λ p. job_fits p.0 p.1 ≡ false) c.all.ensures.ran (YieldsList-from_zip (YieldsList-from_slice rs cc) (YieldsList-from_slice js cc))
    (λ x q k. search rules) (λ x q k. search rules)))
