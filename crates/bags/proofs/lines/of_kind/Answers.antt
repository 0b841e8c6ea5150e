-- `bags::lines::of_kind` meets its contract.
use mathlib.Core.Path.{◌≡◌, sym, ◌∙◌}
use Prim.Native.Nat.{ℕ}
use lib.Dec.{eqb}
use borrow.Author.Rules.{rules}
use Rattle.std.specs.List.{count_by}
use Rattle.bags.proofs.Figures.{kind_counts}
use Rattle.bags.proofs.lines.of_kind.Goals as goal

pub returns : goal.returns
returns c =
    let counted : c.count.result ≡ count_by (λ (mark : ℕ). eqb mark c.args.kind) c.args.marks.now = search rules in
    counted ∙ sym (kind_counts c.args.kind c.args.marks.now)
