-- The numbers of an order, with the high byte first; bytes that it doesn't have count as 0.
-- Assumes nothing: these are definitions.
use Rattle.std.specs.Prelude.{◌≡◌, List, ℕ, ◌+◌, ◌*◌, ◌<◌, get_or}

-- two bytes
unfoldable pub word_at : List ℕ → ℕ → ℕ
word_at s at = get_or s at 0 * 256 + get_or s (at + 1) 0

-- eight bytes
unfoldable pub long_at : List ℕ → ℕ → ℕ
long_at s at = ((word_at s at * 65536 + word_at s (at + 2)) * 65536 + word_at s (at + 4)) * 65536 + word_at s (at + 6)

-- the first n places hold the spans' numbers, which stand from place 3 on
abbrev pub Spanned : List ℕ → ℕ → List ℕ → Type 0
Spanned s n spans = (i : ℕ) → i < n → get_or spans i 0 ≡ long_at s (3 + 8 * i)
