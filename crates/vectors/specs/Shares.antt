-- What `f64::to_bits` asks of the shares whose bits are printed.
-- Assumes nothing: these are definitions.
use Rattle.std.specs.Prelude.{not, List, ℕ, ◌<◌, T, get_or}
use Rattle.std.specs.Float.Ieee.{is_nan}
use Rattle.share.specs.declared.Share.{Share}

-- the share is a number
abbrev pub Number : Share → Type 0
Number x = T (not (is_nan x.share))

-- each of sixteen is, whatever stands for a place past them
abbrev pub Numbers : List Share → Type 0
Numbers xs = (i : ℕ) → i < 16 → (none : Share) → Number (get_or xs i none)
