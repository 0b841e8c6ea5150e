-- The greatest common divisor by Euclid's rule, and the least common multiple, over all numbers.
-- Assumes nothing: these are definitions.
use Rattle.std.specs.Prelude.{ℕ, zero, suc, ◌*◌, ◌/◌, ◌%◌}

-- '(x, 0) gives x, (x, y) gives the answer for (y, x mod y)'; the first number bounds how often the rule calls itself
unfoldable pub gcd_in : ℕ → ℕ → ℕ → ℕ
gcd_in zero x y = x
gcd_in (suc n) x zero = x
gcd_in (suc n) x (suc y) = gcd_in n (suc y) (x % suc y)

-- the second number falls at each call, so it is bound enough
unfoldable pub gcd_of : ℕ → ℕ → ℕ
gcd_of x y = gcd_in (suc y) x y

unfoldable pub lcm_of : ℕ → ℕ → ℕ
lcm_of x y = x / gcd_of x y * y
