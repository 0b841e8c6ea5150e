-- Shares of a few counts by their bits, computed.
-- Assumes nothing.
use mathlib.Core.Path.{◌≡◌, refl}
use lib.Ieee.{round, to_bits}
use Rattle.share.specs.Share.{share_number, share_bits}

-- quotients that must be rounded
pub third : share_bits 1 3 ≡ 4599676419421066581
unfolding share_bits share_number round to_bits
third = refl

pub two_thirds : share_bits 2 3 ≡ 4604180019048437077
unfolding share_bits share_number round to_bits
two_thirds = refl

-- one that is exact: 9 of 12 is 0.75
pub three_quarters : share_bits 9 12 ≡ 4604930618986332160
unfolding share_bits share_number round to_bits
three_quarters = refl

-- +0.0, with a divisor and without one
pub none_of_five : share_bits 0 5 ≡ 0
unfolding share_bits share_number round to_bits
none_of_five = refl

pub none_of_none : share_bits 0 0 ≡ 0
unfolding share_bits share_number round to_bits
none_of_none = refl

-- the largest and the smallest share above 0 of two u32 counts
pub largest : share_bits 4294967295 1 ≡ 4751297606873776128
unfolding share_bits share_number round to_bits
largest = refl

pub smallest : share_bits 1 4294967295 ≡ 4463067230725210112
unfolding share_bits share_number round to_bits
smallest = refl
