-- The writer: what each function of it leaves in the lent bytes, from the facts on the code's way to it.
-- Assumes nothing.
use Rattle.std.specs.Prelude.{Ok}
use mathlib.Core.Path.{◌≡◌, refl, sym, ◌∙◌, ap}
use mathlib.Core.List.{List, [], ◌∷◌, ◌++◌, append_assoc}
use Prim.Native.Nat.{ℕ, ◌+◌, ◌*◌, ◌/◌, ◌%◌, ◌≤◌, ◌<◌}
use native.Mathlib.Numerals.{add-one}
use native.Mathlib.Omega.{arith}
use lib.ListN.{length, take, drop, get_or, set, length-take}
use borrow.Rule.Slice.PartMut.{put_mid}
use Rattle.std.proofs.lemmas.List.Edits.{sets-eq}
use lib.Seq.{sets, take-suc, drop-drop, length-take-le}
use Rattle.refusal.proofs.Lent.{sets_more}
use Rattle.table.specs.declared.Row.{Row}
use Rattle.table.specs.declared.Table.{Table}
use Rattle.table.specs.Rows.{used, blank}
use Rattle.reserve.specs.Check.{table_check}
use Rattle.reserve.proofs.Ready.{few}
use Rattle.reserve.proofs.Verdict.{table_ready}
use Rattle.tablefile.specs.Layout.{length_for, word_bytes, row_bytes, rows_bytes, file_bytes}
use Rattle.tablefile.proofs.FileLayout.{rows_size, file_size, bytes_more}

-- ---- a word and a row
pub word_put : (l new : List ℕ) (at k w : ℕ) → at + 2 ≤ length l → k ≡ 2 → w < 65536 → new ≡ w / 256 % 256 ∷ w % 256 ∷ [] → put_mid at k l new ≡ sets l at (word_bytes w)
unfolding word_bytes
word_put l new at k w fits two small e =
    let high : w / 256 % 256 ≡ w / 256 = omega arith in
    rw (e, high, two, drop-drop 2 at l) (sym (sets-eq (w / 256 ∷ w % 256 ∷ []) l at fits ∙ append_assoc (take at l) (w / 256 ∷ w % 256 ∷ []) (drop (at + 2) l)))

pub row_put : (l a b o : List ℕ) (at : ℕ) (r : Row) → a ≡ sets l at (word_bytes r.period) → b ≡ sets a (at + 2) (word_bytes r.primary)
    → o ≡ sets b (at + 4) (word_bytes r.alternate)
    → o ≡ sets l at (row_bytes r)
unfolding row_bytes word_bytes
row_put l a b o at r e f g =
    let p = word_bytes r.period in
    let q = word_bytes r.primary in
    let x = word_bytes r.alternate in
    let k : at + 4 ≡ at + 2 + 2 = omega arith in
    g
    ∙ ap (λ (j : ℕ). sets b j x) k
    ∙ ap (λ (y : List ℕ). sets y (at + 2 + 2) x) f
    ∙ sets_more q x a (at + 2)
    ∙ ap (λ (y : List ℕ). sets y (at + 2) (q ++ x)) e
    ∙ sets_more p (q ++ x) l at

-- ---- the loop over the rows: those before i stand in the bytes
pub record Put (rs : List Row) (old out : List ℕ) (i : ℕ) : Type 0 where
  pub size : length out ≡ length old
  pub done : out ≡ sets old 4 (rows_bytes (take i rs))

pub put_start : (rs : List Row) (old : List ℕ) → Put rs old old 0
unfolding rows_bytes
put_start rs old = record { size = refl; done = refl }

pub put_step : {rs : List Row} {old out : List ℕ} {i : ℕ} → Put rs old out i → i < length rs
    → (o : List ℕ) → length o ≡ length out → o ≡ sets out (4 + 6 * i) (row_bytes (get_or rs i blank))
    → Put rs old o (i + 1)
put_step {rs} {old} {out} {i} inv l o z a =
    let before = take i rs in
    let r = get_or rs i blank in
    let s : 4 + 6 * i ≡ 4 + length (rows_bytes before) = omega (arith, rows_size before, length-take-le i rs (omega arith)) in
    let n : take (i + 1) rs ≡ before ++ (r ∷ []) = rw add-one (take-suc rs i blank l) in
    record {
      size = z ∙ inv.size;
      done =
          a
          ∙ ap (λ (p : List ℕ). sets p (4 + 6 * i) (row_bytes r)) inv.done
          ∙ ap (λ (j : ℕ). sets (sets old 4 (rows_bytes before)) j (row_bytes r)) s
          ∙ sets_more (rows_bytes before) (row_bytes r) old 4
          ∙ ap (sets old 4) (sym (bytes_more before r))
          ∙ ap (λ (q : List Row). sets old 4 (rows_bytes q)) (sym n);
    }

-- ---- the whole file
pub write_rows : (t : Table) (rs : List Row) → rs ≡ used t → length rs ≤ t.n
unfolding used
write_rows t rs e = omega (arith, ap length e, length-take t.n t.rows)

pub write_size : (t : Table) (cycle : ℕ) → table_check t ≡ Ok cycle → length t.rows ≡ 16 → length_for t.n + 2 ≡ length (file_bytes t)
write_size t cycle e l = omega (arith, file_size t l (few (table_ready t cycle e)))

pub file_put : (t : Table) (l a o : List ℕ) → a ≡ sets l 0 (word_bytes (length_for t.n)) → o ≡ sets (set (set a 2 1) 3 t.n) 4 (rows_bytes (used t))
    → o ≡ sets l 0 (file_bytes t)
unfolding file_bytes word_bytes
file_put t l a o e f = f ∙ ap (λ (y : List ℕ). sets (set (set y 2 1) 3 t.n) 4 (rows_bytes (used t))) e
