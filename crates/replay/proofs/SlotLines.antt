-- The lines of slots: what a log's byte says, and a log's lines one after the other.
-- Assumes nothing.
use mathlib.Core.Path.{◌≡◌, refl, sym, ap, ◌∙◌}
use mathlib.Core.List.{List, [], ◌∷◌, ◌++◌, append_assoc, append-nil}
use Prim.Native.Nat.{ℕ, zero, suc, ◌+◌, ◌-◌, ◌*◌, ◌≤◌, ◌<◌}
use native.Mathlib.Numerals.{add-one}
use native.Mathlib.Omega.{arith}
use borrow.Author.Tests.{lt-ltb, le-ltb}
use lib.ListN.{length, take, get_or}
use lib.Seq.{take-suc, length-take-le}
use Rattle.slots.specs.History.{work_of}
use Rattle.replay.specs.Texts.{quoted, named}
use Rattle.replay.specs.Lines.{work_text, slot_line, log_lines}
use Rattle.replay.specs.Turns.{Laid}
use Rattle.replay.proofs.Laying.{laid_then, laid_is}

-- ---- by the log's byte
says_primary : (ran : ℕ) → 1 ≤ ran → ran ≤ 16 → named " primary " ran ++ quoted "\n" ≡ work_text (work_of ran)
unfolding work_of
says_primary zero h l = absurd (omega arith)
says_primary (suc b) h l = rw (lt-ltb b 16 (omega arith)) refl

says_alternate : (ran : ℕ) → 17 ≤ ran → named " alternate " (ran - 16) ++ quoted "\n" ≡ work_text (work_of ran)
unfolding work_of
says_alternate zero l = absurd (omega arith)
says_alternate (suc b) l =
    let e : suc b - 16 ≡ suc (b - 16) = omega arith in
    rw (le-ltb b 16 (omega arith)) (ap (λ (k : ℕ). named " alternate " k ++ quoted "\n") e)

module _ {old new : List ℕ} {at e : ℕ} (ran : ℕ) where
  pub idle_laid : ran ≡ 0 → Laid old at (quoted " idle\n") new e → Laid old at (work_text (work_of ran)) new e
  unfolding work_of
  idle_laid z g = laid_is (ap (λ (b : ℕ). work_text (work_of b)) (sym z)) g

  pub primary_laid : 1 ≤ ran → ran ≤ 16 → Laid old at (named " primary " ran ++ quoted "\n") new e → Laid old at (work_text (work_of ran)) new e
  primary_laid h l g = laid_is (says_primary ran h l) g

  pub alternate_laid : 17 ≤ ran → Laid old at (named " alternate " (ran - 16) ++ quoted "\n") new e → Laid old at (work_text (work_of ran)) new e
  alternate_laid l g = laid_is (says_alternate ran l) g

-- ---- logs joined up: their lines too
pub lines_joined : (s : ℕ) (xs ys : List ℕ) → log_lines s (xs ++ ys) ≡ log_lines s xs ++ log_lines (s + length xs) ys
unfolding log_lines
lines_joined s [] ys = let e : s ≡ s + 0 = omega arith in ap (λ (k : ℕ). log_lines k ys) e
lines_joined s (x ∷ xs) ys =
    let e : suc s + length xs ≡ s + suc (length xs) = omega arith in
    ap (λ (l : List ℕ). slot_line s x ++ l) (lines_joined (suc s) xs ys ∙ ap (λ (k : ℕ). log_lines (suc s) xs ++ log_lines k ys) e)
    ∙ sym (append_assoc (slot_line s x) (log_lines (suc s) xs) (log_lines (s + suc (length xs)) ys))

-- ---- a log of which the lines of the first i bytes are laid
pub record Lined (old : List ℕ) (first : ℕ) (log new : List ℕ) (at i : ℕ) : Type 0 where
  pub laid : Laid old 0 (log_lines first (take i log)) new at
  pub room : at ≤ 52 * i

pub lined_start : (old : List ℕ) (first : ℕ) (log : List ℕ) → Lined old first log old 0 0
unfolding log_lines
lined_start old first log = record { laid = record { bytes = refl; ends = refl; fits = omega arith; same = refl }; room = omega arith }

module _ {old : List ℕ} {first : ℕ} {log new : List ℕ} {at i : ℕ} (g : Lined old first log new at i) where
  one_more : i < length log → log_lines first (take i log) ++ slot_line (first + i) (get_or log i 0) ≡ log_lines first (take (i + 1) log)
  unfolding log_lines
  one_more l =
      let b : ℕ = get_or log i 0 in
      let k : length (take i log) ≡ i = length-take-le i log (omega arith) in
      ap (λ (line : List ℕ). log_lines first (take i log) ++ line) (sym (append-nil (slot_line (first + i) b)))
      ∙ ap (λ (n : ℕ). log_lines first (take i log) ++ log_lines (first + n) (b ∷ [])) (sym k)
      ∙ sym (lines_joined first (take i log) (b ∷ []))
      ∙ ap (log_lines first) (sym (take-suc log i 0 l) ∙ ap (λ (n : ℕ). take n log) (sym (add-one i)))

  pub lined_step : i < length log → {out : List ℕ} {e : ℕ} → Laid new at (slot_line (first + i) (get_or log i 0)) out e → e ≤ at + 52 → Lined old first log out e (i + 1)
  lined_step l f s = record { laid = laid_is (one_more l) (laid_then g.laid f); room = omega (arith, g.room) }
