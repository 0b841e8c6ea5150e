-- How much of an input a reader has to take in: 65,538 bytes are enough, since a length field says at most 65,535 and has two bytes itself.
-- Assumes nothing.
use Rattle.std.specs.Prelude.{Some, Err}
use mathlib.Core.Path.{◌≡◌, sym, ◌∙◌, ap}
use mathlib.Core.Logic.{inl, inr, ⊎_elim}
use mathlib.Core.List.{List}
use Prim.Native.Nat.{ℕ, ◌≤◌, ◌<◌}
use native.Mathlib.Omega.{arith}
use lib.ListN.{length, take}
use lib.Seq.{take_all, get_or-take, length-take-le}
use Rattle.refusal.specs.declared.Refusal.TheVariants.{Size}
use Rattle.refusal.proofs.Order.{answer_err}
use Rattle.rule.proofs.Tests.{side}
use Rattle.tablefile.specs.Layout.{byte_at, word_at, table_from}
use Rattle.tablefile.specs.Answers.{file_refusal, read_as}
use Rattle.tablefile.specs.RoundTrips.{Bytes}
use Rattle.tablefile.specs.Exactly.{FileGives}
use Rattle.tablefile.proofs.Exactly.{file_gives}

-- no length field counts so far
long_refused : (s : List ℕ) → byte_at s 0 < 256 → byte_at s 1 < 256 → 65538 ≤ length s → read_as s ≡ Err Size
unfolding read_as FileGives word_at
long_refused s b₀ b₁ l =
    let f : file_refusal s ≡ Some Size = (file_gives s (Some Size)).1 (inl (inr (λ e. omega arith))) in
    sym (answer_err (file_refusal s) (table_from s) Size f)

-- the answer for an input is that for its first m bytes
pub enough : (m : ℕ) → 65538 ≤ m → (s : List ℕ) → Bytes s → read_as (take m s) ≡ read_as s
enough m h s b = ⊎_elim (λ (l : length s < m). ap read_as (take_all m s (omega arith))) long (side (length s) m)
  where
    long : m ≤ length s → read_as (take m s) ≡ read_as s
    long l =
        let b₀ : byte_at (take m s) 0 < 256 = omega (arith, b 0, get_or-take m s 0 0 (omega arith)) in
        let b₁ : byte_at (take m s) 1 < 256 = omega (arith, b 1, get_or-take m s 1 0 (omega arith)) in
        long_refused (take m s) b₀ b₁ (omega (arith, length-take-le m s l)) ∙ sym (long_refused s (b 0) (b 1) (omega arith))
