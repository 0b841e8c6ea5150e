-- The numbers of an order, as the code puts them together from bytes.
-- Assumes nothing.
use mathlib.Core.Path.{◌≡◌}
use mathlib.Core.List.{List}
use Prim.Native.Nat.{ℕ, ◌+◌}
use native.Mathlib.Nat.{add-zero, add_assoc}
use native.Mathlib.Omega.{arith}
use lib.ListN.{get_or}
use Rattle.std.specs.Int.{w16, w64, from_be_bytes}
use Rattle.bags.specs.Orders.{word_at, long_at}

module _ (s bs : List ℕ) (at : ℕ) where
  abbrev Byte : ℕ → Type 0
  Byte i = get_or bs i 0 ≡ get_or s (at + i) 0

  pub word_by : Byte 0 → Byte 1 → from_be_bytes w16 bs ≡ word_at s at
  unfolding word_at
  word_by a b = let a' = simp add-zero at a in omega arith

  pub long_by : Byte 0 → Byte 1 → Byte 2 → Byte 3 → Byte 4 → Byte 5 → Byte 6 → Byte 7 → from_be_bytes w64 bs ≡ long_at s at
  unfolding long_at word_at
  long_by a b c d e f g h = let a' = simp add-zero at a in simp add_assoc (omega arith)
