-- The count of a report's bags of a kind.
-- Assumes nothing.
use mathlib.Core.Path.{◌≡◌, refl}
use mathlib.Core.Bool.{cond}
use mathlib.Core.List.{List}
use Prim.Native.Nat.{ℕ}
use lib.Dec.{eqb}
use Rattle.std.specs.List.{count_by}
use Rattle.std.proofs.lemmas.List.Recursion.{is_sum_by}
use Rattle.bags.specs.Lines.{of_kind}

pub kind_counts : (kind : ℕ) (marks : List ℕ) → of_kind kind marks ≡ count_by (λ (mark : ℕ). eqb mark kind) marks
unfolding of_kind
kind_counts kind marks = is_sum_by (of_kind kind) (λ (mark : ℕ). cond (eqb mark kind) 1 0) refl (λ _ _. refl) marks
