-- `table::gcd` is Euclid's rule: each of its returns is one of the two clauses.
use mathlib.Core.Path.{sym, ap, ◌∙◌}
use Prim.Native.Nat.{◌<◌}
use native.Mathlib.Omega.{arith}
use Rattle.table.specs.Gcd.{gcd_of}
use Rattle.table.proofs.Euclid.{gcd_none, gcd_step}
use Rattle.table.proofs.+gcd.Goals as goal

pub returns-then-y-eq0 : goal.returns-then-y-eq0
returns-then-y-eq0 t c = sym (ap (gcd_of c.args.x) c.if-y-eq0.true ∙ gcd_none c.args.x)

pub returns-else-y-eq0 : goal.returns-else-y-eq0
returns-else-y-eq0 t c =
    let pos : 0 < c.args.y = omega arith in
    c.gcd.ensures ∙ sym (gcd_step c.args.x c.args.y pos)
