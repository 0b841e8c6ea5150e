-- The claims of a record are claims as the rule asks, and a fresh record's are the table's own.
-- Assumes nothing.
use mathlib.Core.Path.{◌≡◌, sym}
use mathlib.Core.Logic.{⊎_elim}
use Prim.Native.Nat.{ℕ, ◌≤◌, ◌<◌}
use native.Mathlib.Omega.{arith}
use lib.Dec.{eqb}
use borrow.Author.Tests.{eqb-true}
use Rattle.rule.specs.Rule.{claimed, Windows, Claims}
use Rattle.rule.proofs.Tests.{split}

pub claimed_fresh : {E W : ℕ → ℕ → ℕ} {n : ℕ} → Windows E n → Claims E W n → (c i s : ℕ) → i < n → c ≤ s → claimed E W c (λ i. W i c) i s ≡ W i s
unfolding claimed
claimed_fresh {E} {W} win cl c i s row l =
    ⊎_elim
    (λ h.
    let e : E i s ≡ E i c = eqb-true (E i s) (E i c) h in
    rw h (sym (cl i c s row l (omega (arith, win.inside i s row)))))
    (λ h. rw h) (split (eqb (E i s) (E i c)))

pub claimed_claims : {E W : ℕ → ℕ → ℕ} {n : ℕ} → Windows E n → Claims E W n → (c : ℕ) (left : ℕ → ℕ) → Claims E (claimed E W c left) n
unfolding claimed
claimed_claims {E} {W} win cl c left i s t row l u = rw (win.flat i s t row l u, cl i s t row l u)
