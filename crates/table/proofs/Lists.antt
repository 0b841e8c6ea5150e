-- The first n elements of a list from some place on, as a loop over them meets them, and the length of an array of structs.
-- Assumes nothing.
use mathlib.Core.Path.{◌≡◌, sym, ◌∙◌}
use mathlib.Core.List.{List, [], ◌∷◌, map}
use Prim.Native.Nat.{ℕ, ◌+◌, ◌≤◌, ◌<◌}
use native.Mathlib.Numerals.{add-one}
use native.Mathlib.Omega.{arith}
use lib.ListN.{length, take, drop, get_or, length-map, length-take, drop_of_length-le}
use lib.Seq.{drop-cons, get_or-take}

-- of a field that is an array of structs only the length of what it maps to is known
pub long : {X Y : Type 0} (f : X → Y) (l : List X) (n : ℕ) → length (map f l) ≡ n → length l ≡ n
long f l n e = sym (length-map l f) ∙ e

-- the rest of the first n from i on begins with the element at i
pub next : {X : Type 0} (l : List X) (n i : ℕ) (d : X) → i < n → n ≤ length l → drop i (take n l) ≡ get_or l i d ∷ drop (i + 1) (take n l)
next l n i d h k =
    let s : i < length (take n l) = simp length-take (omega arith) in
    drop-cons (take n l) i d s ∙ rw (add-one, get_or-take)

-- and there is nothing from n on
pub past : {X : Type 0} (l : List X) (n i : ℕ) → n ≤ i → drop i (take n l) ≡ []
past l n i h =
    let s : length (take n l) ≤ i = simp length-take (omega arith) in
    drop_of_length-le (take n l) s
