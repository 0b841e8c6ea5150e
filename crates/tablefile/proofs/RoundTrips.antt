-- The bytes of a table are read back to its rows, and the table of an accepted file has the file's bytes.
-- Assumes nothing.
use Rattle.std.specs.Prelude.{None, Ok}
use mathlib.Core.Path.{◌≡◌, refl, sym, ◌∙◌, ap, ap₂}
use mathlib.Core.List.{List, [], ◌∷◌, ◌++◌}
use Prim.Native.Nat.{ℕ, zero, suc, ◌+◌, ◌-◌, ◌*◌, ◌/◌, ◌%◌, ◌≤◌, ◌<◌}
use native.Mathlib.Omega.{arith}
use native.Mathlib.Nat.{div-add-mod', ne_of_gt}
use lib.ListN.{length, replicate, length-append, length-replicate}
use lib.Seq.{take_at}
use Rattle.refusal.proofs.Order.{passes, none_first, none_later, ok_none, ok_figure}
use Rattle.table.specs.declared.Row.{Row}
use Rattle.table.specs.declared.Table.{Table}
use Rattle.table.specs.Rows.{used, blank}
use Rattle.table.proofs.Check.{used_count}
use Rattle.reserve.specs.Check.{table_refusal}
use Rattle.reserve.proofs.Verdict.{table_accepted, refusal_past}
use Rattle.tablefile.specs.Layout.{length_for, word_bytes, row_bytes, rows_bytes, file_bytes, count_byte, word_at, row_from, rows_from, padded, table_from}
use Rattle.tablefile.specs.Answers.{head_refusal, file_refusal, read_as}
use Rattle.tablefile.specs.RoundTrips.{Places, Bytes, zeroed}
use Rattle.tablefile.proofs.FileLayout.{rows_count, file_size, rows_shift}
use Rattle.tablefile.proofs.HeadCases.{head_none, Headed, headed}

-- ---- the rows of the rows' bytes
pub same_row : (x y : Row) → x.period ≡ y.period → x.primary ≡ y.primary → x.alternate ≡ y.alternate → x ≡ y
same_row x y a b c =
    ap (λ (k : ℕ). record { period = k; primary = x.primary; alternate = x.alternate }) a
    ∙ ap (λ (k : ℕ). record { period = y.period; primary = k; alternate = x.alternate }) b
    ∙ ap (λ (k : ℕ). record { period = y.period; primary = y.primary; alternate = k }) c

row_back : (r : Row) (s : List ℕ) → row_from (row_bytes r ++ s) 0 ≡ r
unfolding row_from row_bytes word_bytes word_at
row_back r s =
    same_row (row_from (row_bytes r ++ s) 0) r (div-add-mod' r.period 256) (div-add-mod' r.primary 256) (div-add-mod' r.alternate 256)

rows_back : (rs : List Row) → rows_from (rows_bytes rs) 0 (length rs) ≡ rs
unfolding rows_from rows_bytes row_bytes word_bytes
rows_back [] = refl
rows_back (r ∷ rs) =
    ap₂ (λ (x : Row) (xs : List Row). x ∷ xs) (row_back r (rows_bytes rs)) (rows_shift (row_bytes r) (rows_bytes rs) (length rs) 6 0 refl ∙ rows_back rs)

-- ---- the rows of a table, with zeros past them
used_padded : (n : ℕ) (rs : List Row) → length rs ≡ n → used (record { n = n; rows = padded n rs }) ≡ rs
unfolding used
used_padded n rs e = take_at rs (replicate (16 - n) blank) n e

pub padded_places : (n : ℕ) (rs : List Row) → length rs ≡ n → n ≤ 16 → length (padded n rs) ≡ 16
padded_places n rs e m = simp (length-append, length-replicate) (omega arith)

module _ (t : Table) (places : Places t) (a : table_refusal t ≡ None) where
  few : t.n ≤ 16
  few = (table_accepted t a).few

  count : length (used t) ≡ t.n
  count = used_count t places few

  used_zeroed : used (zeroed t) ≡ used t
  unfolding zeroed
  used_zeroed = used_padded t.n (used t) count

  zeroed_accepted : table_refusal (zeroed t) ≡ None
  unfolding zeroed
  zeroed_accepted = refusal_past (zeroed t) t refl used_zeroed ∙ a

  -- ---- what is read from a table's bytes
  file_head : head_refusal (file_bytes t) ≡ None
  unfolding file_bytes word_bytes word_at
  file_head =
      let size = file_size t places few in
      let word : word_at (file_bytes t) 0 ≡ length_for t.n = div-add-mod' (length_for t.n) 256 in
      head_none (file_bytes t) (omega arith) (length_for t.n) (sym word) (omega arith) 1 refl refl t.n refl (ne_of_gt (table_accepted t a).some) few refl

  file_rows : rows_from (file_bytes t) 4 t.n ≡ used t
  unfolding file_bytes word_bytes
  file_rows =
      rows_shift (word_bytes (length_for t.n) ++ (1 ∷ t.n ∷ [])) (rows_bytes (used t)) t.n 4 0 refl
      ∙ ap (rows_from (rows_bytes (used t)) 0) (sym count)
      ∙ rows_back (used t)

  file_table : table_from (file_bytes t) ≡ zeroed t
  unfolding table_from zeroed file_bytes word_bytes
  file_table = ap (λ (rs : List Row). record { n = t.n; rows = padded t.n rs }) file_rows

  pub file_accepted : file_refusal (file_bytes t) ≡ None
  unfolding file_refusal
  file_accepted =
      sym (passes (head_refusal (file_bytes t)) (table_refusal (table_from (file_bytes t))) file_head) ∙ ap table_refusal file_table ∙ zeroed_accepted

  pub read_back : read_as (file_bytes t) ≡ Ok (zeroed t)
  unfolding read_as
  read_back = rw (file_accepted, file_table)

-- ---- the bytes of the rows of bytes
bytes_back : (n : ℕ) (s : List ℕ) → length s ≡ 6 * n → Bytes s → rows_bytes (rows_from s 0 n) ≡ s
unfolding rows_from rows_bytes row_bytes word_bytes row_from word_at
bytes_back zero [] e b = refl
bytes_back zero (x ∷ s) e b = absurd (omega arith)
bytes_back (suc n) [] e b = absurd (omega arith)
bytes_back (suc n) (x₀ ∷ []) e b = absurd (omega arith)
bytes_back (suc n) (x₀ ∷ x₁ ∷ []) e b = absurd (omega arith)
bytes_back (suc n) (x₀ ∷ x₁ ∷ x₂ ∷ []) e b = absurd (omega arith)
bytes_back (suc n) (x₀ ∷ x₁ ∷ x₂ ∷ x₃ ∷ []) e b = absurd (omega arith)
bytes_back (suc n) (x₀ ∷ x₁ ∷ x₂ ∷ x₃ ∷ x₄ ∷ []) e b = absurd (omega arith)
bytes_back (suc n) (x₀ ∷ x₁ ∷ x₂ ∷ x₃ ∷ x₄ ∷ x₅ ∷ s) e b =
    ap (λ (rs : List Row). row_bytes (row_from (x₀ ∷ x₁ ∷ x₂ ∷ x₃ ∷ x₄ ∷ x₅ ∷ s) 0) ++ rows_bytes rs) (rows_shift (x₀ ∷ x₁ ∷ x₂ ∷ x₃ ∷ x₄ ∷ x₅ ∷ []) s n 6 0 refl)
    ∙ ap (λ (l : List ℕ). row_bytes (row_from (x₀ ∷ x₁ ∷ x₂ ∷ x₃ ∷ x₄ ∷ x₅ ∷ s) 0) ++ l) (bytes_back n s (omega arith) (λ k. b (suc (suc (suc (suc (suc (suc k))))))))
    ∙ six x₀ x₁ x₂ x₃ x₄ x₅ s (b 1) (b 3) (b 5)
  where
    six : (y₀ y₁ y₂ y₃ y₄ y₅ : ℕ) (l : List ℕ) → y₁ < 256 → y₃ < 256 → y₅ < 256 → row_bytes (row_from (y₀ ∷ y₁ ∷ y₂ ∷ y₃ ∷ y₄ ∷ y₅ ∷ s) 0) ++ l ≡ y₀ ∷ y₁ ∷ y₂ ∷ y₃ ∷ y₄ ∷ y₅ ∷ l
    six y₀ y₁ y₂ y₃ y₄ y₅ l h i j =
        let a : (y₀ * 256 + y₁) / 256 ≡ y₀ = omega arith in
        let b : (y₀ * 256 + y₁) % 256 ≡ y₁ = omega arith in
        let c : (y₂ * 256 + y₃) / 256 ≡ y₂ = omega arith in
        let d : (y₂ * 256 + y₃) % 256 ≡ y₃ = omega arith in
        let e : (y₄ * 256 + y₅) / 256 ≡ y₄ = omega arith in
        let f : (y₄ * 256 + y₅) % 256 ≡ y₅ = omega arith in
        cc

-- ---- the bytes of the table of a file
file_back : (s : List ℕ) → Bytes s → Headed s → file_bytes (table_from s) ≡ s
unfolding file_bytes word_bytes table_from word_at
file_back [] b h = absurd (omega (arith, h.whole))
file_back (x₀ ∷ []) b h = absurd (omega (arith, h.whole))
file_back (x₀ ∷ x₁ ∷ []) b h = absurd (omega (arith, h.whole))
file_back (x₀ ∷ x₁ ∷ x₂ ∷ []) b h = absurd (omega (arith, h.whole))
file_back (x₀ ∷ x₁ ∷ x₂ ∷ x₃ ∷ s) b h =
    let l : length s ≡ 6 * x₃ = omega (arith, h.length_field_lem, h.size) in
    let v : x₂ ≡ 1 = h.version in
    let hi : length_for x₃ / 256 ≡ x₀ = omega (arith, b 1, h.size) in
    let lo : length_for x₃ % 256 ≡ x₁ = omega (arith, b 1, h.size) in
    let file = x₀ ∷ x₁ ∷ x₂ ∷ x₃ ∷ s in
    let r : rows_bytes (used (table_from file)) ≡ s =
    ap rows_bytes (used_padded x₃ (rows_from file 4 x₃) (rows_count file 4 x₃) ∙ rows_shift (x₀ ∷ x₁ ∷ x₂ ∷ x₃ ∷ []) s x₃ 4 0 refl)
    ∙ bytes_back x₃ s l (λ k. b (suc (suc (suc (suc k))))) in
    cc

-- ---- a table that was read
module _ (s : List ℕ) (t : Table) (e : read_as s ≡ Ok t) where
  accepted_file : file_refusal s ≡ None
  unfolding read_as
  accepted_file = ok_none (file_refusal s) (table_from s) t e

  is_held : table_from s ≡ t
  unfolding read_as
  is_held = ok_figure (file_refusal s) (table_from s) t e

  read_head : Headed s
  unfolding file_refusal
  read_head = headed s (none_first _ _ accepted_file)

  -- it is accepted
  pub was_read : table_refusal t ≡ None
  unfolding file_refusal
  was_read = ap table_refusal (sym is_held) ∙ none_later _ _ accepted_file

  pub read_places : Places t
  unfolding table_from
  read_places =
      ap (λ (u : Table). length u.rows) (sym is_held) ∙ padded_places (count_byte s) (rows_from s 4 (count_byte s)) (rows_count s 4 (count_byte s)) read_head.few

  pub written_back : Bytes s → file_bytes t ≡ s
  written_back b = ap file_bytes (sym is_held) ∙ file_back s b read_head
