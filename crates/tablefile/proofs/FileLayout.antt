-- The layout of a table file: lengths, one row more, and what is read past a prefix.
-- Assumes nothing.
use mathlib.Core.Path.{◌≡◌, refl, sym, ◌∙◌, ap, ap₂}
use mathlib.Core.List.{List, [], ◌∷◌, ◌++◌, append_assoc}
use Prim.Native.Nat.{ℕ, zero, suc, ◌+◌, ◌*◌, ◌≤◌}
use native.Mathlib.Omega.{arith}
use lib.ListN.{length}
use lib.Seq.{get_or-append-add}
use Rattle.table.specs.declared.Row.{Row}
use Rattle.table.specs.declared.Table.{Table}
use Rattle.table.specs.Rows.{used}
use Rattle.table.proofs.Check.{used_count}
use Rattle.tablefile.specs.Layout.{word_bytes, row_bytes, rows_bytes, file_bytes, byte_at, word_at, row_from, rows_from}

-- ---- lengths
pub rows_count : (s : List ℕ) (at n : ℕ) → length (rows_from s at n) ≡ n
unfolding rows_from
rows_count s at zero = refl
rows_count s at (suc n) = ap suc (rows_count s (at + 6) n)

pub rows_size : (rs : List Row) → length (rows_bytes rs) ≡ 6 * length rs
unfolding rows_bytes row_bytes word_bytes
rows_size [] = refl
rows_size (r ∷ rs) = omega (arith, rows_size rs)

-- 'The file writer needs 4+6n'
pub file_size : (t : Table) → length t.rows ≡ 16 → t.n ≤ 16 → length (file_bytes t) ≡ 4 + 6 * t.n
unfolding file_bytes word_bytes
file_size t e m = omega (arith, rows_size (used t), used_count t e m)

-- ---- one row more at the end
pub rows_more : (s : List ℕ) (at n : ℕ) → rows_from s at n ++ (row_from s (at + 6 * n) ∷ []) ≡ rows_from s at (suc n)
unfolding rows_from
rows_more s at zero = let e : at + 6 * 0 ≡ at = omega arith in ap (λ (k : ℕ). row_from s k ∷ []) e
rows_more s at (suc n) =
    let e : at + 6 * suc n ≡ at + 6 + 6 * n = omega arith in
    ap (λ (k : ℕ). row_from s at ∷ rows_from s (at + 6) n ++ (row_from s k ∷ [])) e ∙ ap (λ (l : List Row). row_from s at ∷ l) (rows_more s (at + 6) n)

pub bytes_more : (rs : List Row) (r : Row) → rows_bytes (rs ++ (r ∷ [])) ≡ rows_bytes rs ++ row_bytes r
unfolding rows_bytes row_bytes word_bytes
bytes_more [] r = refl
bytes_more (x ∷ rs) r = ap (λ (l : List ℕ). row_bytes x ++ l) (bytes_more rs r) ∙ sym (append_assoc (row_bytes x) (rows_bytes rs) (row_bytes r))

-- ---- what is read past a prefix is read of the rest
byte_shift : (p s : List ℕ) (j k : ℕ) → j ≡ length p + k → byte_at (p ++ s) j ≡ byte_at s k
byte_shift p s j k e = ap (λ (i : ℕ). byte_at (p ++ s) i) e ∙ get_or-append-add p s k 0

word_shift : (p s : List ℕ) (j k : ℕ) → j ≡ length p + k → word_at (p ++ s) j ≡ word_at s k
unfolding word_at
word_shift p s j k e = ap₂ (λ (x y : ℕ). x * 256 + y) (byte_shift p s j k e) (byte_shift p s (j + 1) (k + 1) (omega arith))

row_shift : (p s : List ℕ) (j k : ℕ) → j ≡ length p + k → row_from (p ++ s) j ≡ row_from s k
unfolding row_from
row_shift p s j k e =
    let a = word_shift p s j k e in
    let b = word_shift p s (j + 2) (k + 2) (omega arith) in
    let c = word_shift p s (j + 4) (k + 4) (omega arith) in
    cc

pub rows_shift : (p s : List ℕ) (n j k : ℕ) → j ≡ length p + k → rows_from (p ++ s) j n ≡ rows_from s k n
unfolding rows_from
rows_shift p s zero j k e = refl
rows_shift p s (suc n) j k e = ap₂ (λ (r : Row) (rs : List Row). r ∷ rs) (row_shift p s j k e) (rows_shift p s n (j + 6) (k + 6) (omega arith))
