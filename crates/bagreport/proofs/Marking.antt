-- The bag that looks at a job, found first: its byte is the one that is marked.
-- Assumes nothing.
use mathlib.Core.Path.{◌≡◌, ◌∙◌}
use mathlib.Core.Logic.{⊎_elim}
use mathlib.Core.List.{List}
use Prim.Native.Nat.{ℕ, ◌/◌, ◌≤◌, ◌<◌}
use native.Mathlib.Omega.{arith}
use lib.ListN.{length, get_or, set, length-set}
use lib.Seq.{get_or-set_same, get_or-set_other}
use Rattle.rule.proofs.Tests.{side}
use Rattle.bagreport.specs.Pairs.{start_at}
use Rattle.bagreport.specs.Turns.{Ordered, Sought, joined_mark, Looks, Remarked}

module _ {spans : List ℕ} {s bag : ℕ} (g : Sought spans s bag) where
  -- no other bag looks
  looks_only : Ordered spans → (c : ℕ) → Looks spans s c → c ≡ bag
  looks_only o c l =
      ⊎_elim (λ (u : bag < c). absurd (omega (arith, o.apart bag c u l.0, g.here (omega (arith, u, l.0)), l.1)))
      (λ (u : c ≤ bag).
      ⊎_elim (λ (v : c < bag). absurd (omega (arith, g.past.ended c v, l.2))) (λ (v : bag ≤ c). omega arith) (side c bag))
      (side bag c)

  pub put_at : {k x : ℕ} {marks : List ℕ} → Ordered spans → length spans / 2 ≤ length marks → bag < length spans / 2 → start_at spans bag < s
      → x ≡ joined_mark (get_or marks bag 0) k → Remarked spans s k marks (set marks bag x)
  put_at {k} {x} {marks} o room h early e = record {
    size = length-set marks bag x;
    looked = λ c l. let q : c ≡ bag = looks_only o c l in rw q (get_or-set_same marks bag x 0 (omega arith) ∙ e);
    others = λ c l. get_or-set_other marks bag c x 0 (λ q. l (rw q (h, early, g.here h)));
  }
