-- Texts laid into a buffer one after the other.
-- Assumes nothing.
use mathlib.Core.Path.{◌≡◌, refl, sym, ap, ◌∙◌}
use mathlib.Core.List.{List, ◌++◌}
use Prim.Native.Nat.{ℕ, ◌+◌, ◌-◌, ◌≤◌}
use native.Mathlib.Omega.{arith}
use lib.ListN.{length, take, drop, length-append}
use lib.Seq.{sets, sets-eq, length-sets, take_all, take_at}
use borrow.Rule.Slice.PartMut.{put_mid}
use Rattle.std.proofs.lemmas.Slice.{put_mid-paste}
use Rattle.refusal.proofs.Lent.{sets_more, sets_laid}
use Rattle.replay.specs.Turns.{Laid}

pub laid_then : {old mid new xs ys : List ℕ} {a b e : ℕ} → Laid old a xs mid b → Laid mid b ys new e → Laid old a (xs ++ ys) new e
laid_then {old} {mid} {new} {xs} {ys} {a} {b} f g =
    record {
      bytes = g.bytes ∙ ap (λ (m : List ℕ). sets m b ys) f.bytes ∙ ap (λ (k : ℕ). sets (sets old a xs) k ys) f.ends ∙ sets_more xs ys old a;
      ends = omega (arith, f.ends, g.ends, length-append xs ys);
      fits = omega (arith, f.same, g.fits);
      same = g.same ∙ f.same;
    }

pub laid_is : {old new xs ys : List ℕ} {a e : ℕ} → xs ≡ ys → Laid old a xs new e → Laid old a ys new e
laid_is h f = rw h at f

-- a text copied over a part of the buffer
pub copied : (old : List ℕ) (at : ℕ) (text copy : List ℕ) → at + length text ≤ length old → copy ≡ text
    → Laid old at text (put_mid at (at + length text - at) old copy) (at + length text)
copied old at text copy l e =
    let bytes : put_mid at (at + length text - at) old copy ≡ sets old at text
    = put_mid-paste at (at + length text - at) old copy text (length text) e (omega arith) refl
    ∙ ap (λ (x : List ℕ). take at old ++ x ++ drop (at + length text) old) (take_all (length text) text (omega arith))
    ∙ sym (sets-eq text old at l) in
    record { bytes = bytes; ends = refl; fits = l; same = ap length bytes ∙ length-sets old at text }

-- the text's own part of the buffer, where it stands at the start: that is what is written out
pub laid_text : {old text new : List ℕ} {e : ℕ} → Laid old 0 text new e → take e new ≡ text
laid_text {old} {text} {new} {e} g =
    let whole : length text ≡ e = omega (arith, g.ends) in
    ap (take e) (g.bytes ∙ sets_laid text old (omega (arith, g.fits, g.ends))) ∙ take_at text (drop (length text) old) e whole
