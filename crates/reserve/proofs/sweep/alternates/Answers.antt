-- `reserve::sweep::alternates` meets its contract.
use mathlib.Core.Path.{◌≡◌, sym, ap, ◌∙◌}
use native.Mathlib.Omega.{arith}
use borrow.Author.Rules.{rules}
use lib.ListN.{length, get_or, length-take}
use lib.Seq.{get_or-take}
use Rattle.table.specs.declared.Row.{Row}
use Rattle.table.specs.Rows.{used, blank}
use Rattle.table.proofs.Lists.{long}
use Rattle.reserve.proofs.sweep.alternates.Goals as goal

pub returns : goal.returns
unfolding used
returns c i l =
    let t = c.args.t in
    let sixteen : length t.rows ≡ 16 = search (long) in
    let h = c.map.ensures.items.at i blank 0 (omega (arith, length-take t.n t.rows)) in
    let k : get_or c.map.result i 0 ≡ (get_or t.rows i blank).alternate = search (rules, h) in
    k ∙ sym (ap (λ (r : Row). r.alternate) (get_or-take t.n t.rows i blank (omega (arith, length-take t.n t.rows))))
