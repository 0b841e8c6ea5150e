-- 'A sweep from the cycle's end to slot 0': at each slot the first row with units left of its claim takes the slot.
-- Assumes nothing: these are definitions.
use Rattle.std.specs.Prelude.{cond, List, [], ◌∷◌, ℕ, zero, suc, ◌+◌, ◌-◌, eqb, replicate}
use Rattle.rule.specs.Rule.{between, held, holder}

-- the place of the first number that is not 0, where the list's first is at place k + 1; 0 where there is none
unfoldable pub place_of : ℕ → List ℕ → ℕ
place_of k [] = 0
place_of k (zero ∷ xs) = place_of (suc k) xs
place_of k (suc x ∷ xs) = suc k

-- the first number that is not 0 falls by one
unfoldable pub fall : List ℕ → List ℕ
fall [] = []
fall (zero ∷ xs) = zero ∷ fall xs
fall (suc x ∷ xs) = x ∷ xs

module _ (E K : ℕ → ℕ → ℕ) where
  -- what the sweep has left of row i's claim as it comes down to slot s, by the rule: the free slots after s are taken first
  unfoldable pub rem : ℕ → ℕ → ℕ
  rem i s = K i s - between (held E K i) (suc s) (E i s)

  -- at slot s, each row whose window's last slot it is starts with its whole claim; the list's first row is row i
  unfoldable pub refill : ℕ → ℕ → List ℕ → List ℕ
  refill s i [] = []
  refill s i (x ∷ xs) = cond (eqb (E i s) (suc s)) (K i s) x ∷ refill s (suc i) xs

  -- the m slots from c on, from the last down, with what is left of each row's claim and the holders so far
  unfoldable pub down : ℕ → ℕ → List ℕ → List ℕ → List ℕ
  down c zero xs found = found
  down c (suc m) xs found =
      let ys : List ℕ = refill (c + m) 0 xs in
      down c m (fall ys) (place_of 0 ys ∷ found)

  -- the holders of the slots from c up to, not including, L, among n rows
  unfoldable pub sweep : ℕ → ℕ → ℕ → List ℕ
  sweep n c L = down c (L - c) (replicate n 0) []

  -- the holders by the rule, of the m slots from c on
  unfoldable pub holders : ℕ → ℕ → ℕ → List ℕ
  holders n c zero = []
  holders n c (suc m) = holder E K n c ∷ holders n (suc c) m
