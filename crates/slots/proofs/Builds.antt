-- The buffer built anew: cleared, and then all rows reserve in it.
-- Assumes nothing.
use mathlib.Core.Path.{◌≡◌, refl, sym, ◌∙◌}
use mathlib.Core.List.{List, ◌++◌}
use Prim.Native.Nat.{ℕ, ◌≤◌, ◌<◌}
use native.Mathlib.Omega.{arith}
use lib.ListN.{length, take, drop, replicate}
use Rattle.std.proofs.lemmas.Grind.{common_steps}
use Rattle.table.specs.declared.Table.{Table}
use Rattle.table.specs.Rows.{used, cycle_of}
use Rattle.rule.proofs.Facts.{held_none}
use Rattle.rule.proofs.Holders.{holder_free}
use Rattle.reserve.specs.Tables.{ends}
use Rattle.reserve.specs.Turns.{Ready}
use Rattle.slots.specs.declared.Record.{Record}
use Rattle.slots.specs.Sound.{claims_of}
use Rattle.slots.specs.Buffer.{Written, Rowed}

pub cleared : (cycle : ℕ) (old front : List ℕ) → cycle ≤ length old → front ≡ replicate (length (take cycle old)) 0 → Written 0 cycle (λ _. 0) old (front ++ drop cycle old)
cleared cycle old front room zeros = rw zeros (record {
  size = grind (arith, common_steps);
  inside = λ s l u. grind (arith, common_steps);
  behind = λ s l. absurd (omega arith);
  beyond = λ s l. grind (arith, common_steps);
})

module _ {t : Table} {cycle : ℕ} (r : Ready t cycle) where
  pub own_cycle : Ready t (cycle_of (used t))
  own_cycle = record { rows = r.rows; is_cycle = refl }

  module _ {q : Record} {old mid : List ℕ} (on : q.clock < cycle) (w : Written 0 cycle (λ _. 0) old mid) where
    -- of no rows nobody holds a slot
    pub cleared_rowed : cycle ≤ length old → Rowed (used t) q cycle 0 mid
    cleared_rowed room = record {
      some = on;
      within = omega (arith, r.is_cycle);
      room = omega (arith, r.is_cycle, w.size);
      first = λ s l u. w.inside s (omega arith) u ∙ sym (holder_free (ends (used t)) (claims_of (used t) q) 0 s (held_none (ends (used t)) (claims_of (used t) q) s));
      all = λ s l u. absurd (omega (arith, r.is_cycle));
    }
