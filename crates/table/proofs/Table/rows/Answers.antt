-- `table::Table::rows` meets its contract.
use mathlib.Core.Path.{◌≡◌, sym, ap, ◌∙◌}
use Prim.Native.Nat.{ℕ, min}
use lib.ListN.{length, take}
use Rattle.std.proofs.lemmas.List.{take_min}
use Rattle.table.proofs.Lists.{long}
use Rattle.table.specs.Rows.{used}
use Rattle.table.proofs.Table.rows.Goals as goal

pub returns-clause-rows : goal.returns-clause-rows
unfolding used
returns-clause-rows c =
    let t = c.args.self.now in
    let sixteen : 16 ≡ length t.rows = sym (search (long)) in
    ap (λ (k : ℕ). take k t.rows) (c.min.ensures ∙ ap (λ (k : ℕ). min t.n k) sixteen) ∙ take_min t.n t.rows
