-- Text, as bytes: quoted text, and numbers in decimal.
-- Assumes nothing: these are definitions.
use Rattle.std.specs.Prelude.{ℕ, zero, suc, ◌/◌, ◌%◌, cond, List, [], ◌∷◌, ◌++◌, ltb}
use Prim.Native.Char.{code}
use Prim.Native.String.{String, [] as no_text, ◌∷◌ as ◌then◌}
use Rattle.io.specs.Digits.{hex_digit_ascii}

-- quoted text, a byte for each letter
abbrev pub quoted : String → List ℕ
quoted no_text = []
quoted (c then s) = code c ∷ quoted s

-- a number in decimal, in at most f + 1 digits: below ten its own digit, else the text of its tenth part and then the last digit
unfoldable pub decimal_in : ℕ → ℕ → List ℕ
decimal_in zero n = hex_digit_ascii (n % 10) ∷ []
decimal_in (suc f) n = cond (ltb n 10) (hex_digit_ascii n ∷ []) (decimal_in f (n / 10) ++ hex_digit_ascii (n % 10) ∷ [])

-- no number has more digits than n + 1
abbrev pub decimal : ℕ → List ℕ
decimal n = decimal_in n n

-- a word and a number
abbrev pub named : String → ℕ → List ℕ
named word n = quoted word ++ decimal n
