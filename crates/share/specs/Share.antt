-- The share of two counts, as a binary64 number and by its bits.
-- Assumes nothing: these are definitions.
use Rattle.std.specs.Prelude.{ℕ, false, cond, eqb, Float}
use Rattle.std.specs.Float.{binary64}
use Rattle.std.specs.Float.Ieee.{round, to_bits}
use Rattle.share.specs.declared.Share.{Share}

-- +0.0: nothing, over something
abbrev pub no_number : Float
no_number = round binary64 false 0 1

-- the binary64 number nearest to the quotient, of two equally near the even one: 'carried over exactly and divided once'. Without a divisor +0.0
unfoldable pub share_number : (done of : ℕ) → Float
share_number done of = cond (eqb of 0) no_number (round binary64 false done of)

-- its 64 bits
unfoldable pub share_bits : (done of : ℕ) → ℕ
share_bits done of = to_bits binary64 (share_number done of)

-- 'A row with divisor 0 .. carries 16 beside a share of 0'
unfoldable pub share_of : (done of : ℕ) → Share
share_of done of = record { mark = cond (eqb of 0) 16 0; done = done; of = of; share = share_number done of }
