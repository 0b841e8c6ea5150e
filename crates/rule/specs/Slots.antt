-- Counting and looking for slots, and looking for rows. P is a test of slots, or of rows counted from 0.
-- Assumes nothing: these are definitions.
use Rattle.std.specs.Prelude.{ℕ, zero, suc, ◌+◌, ◌-◌, Bool, true, false, cond, ◌&&◌, ◌||◌, eqb}

abbrev pub unit : Bool → ℕ
unit true = 1
unit false = 0

-- at how many of the n slots from s on P holds
unfoldable pub count : (ℕ → Bool) → ℕ → ℕ → ℕ
count P s zero = 0
count P s (suc n) = unit (P s) + count P (suc s) n

-- at how many slots t with a ≤ t < b P holds
abbrev pub within : (ℕ → Bool) → ℕ → ℕ → ℕ
within P a b = count P a (b - a)

-- P holds at one of the n slots from s on
unfoldable pub some : (ℕ → Bool) → ℕ → ℕ → Bool
some P s zero = false
some P s (suc n) = P s || some P (suc s) n

-- the first of the n slots from s on at which P holds, and s + n where it holds at none
unfoldable pub first_of : (ℕ → Bool) → ℕ → ℕ → ℕ
first_of P s zero = s
first_of P s (suc n) = cond (P s) s (first_of P (suc s) n)

-- the row found before, or else row k where the test holds; 0 is no row
unfoldable pub or_row : ℕ → Bool → ℕ → ℕ
or_row found test k = cond (eqb found 0) (cond test k 0) found

-- the first of n rows at which P holds, counted from 1; 0 where it holds at none
unfoldable pub first_row : (ℕ → Bool) → ℕ → ℕ
first_row P zero = 0
first_row P (suc n) = or_row (first_row P n) (P n) (suc n)

-- P holds at each of the first n rows
unfoldable pub every : (ℕ → Bool) → ℕ → Bool
every P zero = true
every P (suc n) = every P n && P n
