-- When each refusal of a table file is given. What specs/Exactly says of a refusal brings it about (`given_if`), and of every file it says something of some refusal (`some_gives`).
-- Assumes nothing.
use Rattle.std.specs.Prelude.{Option, Some, None}
use mathlib.Core.Path.{◌≡◌, refl, sym, ◌∙◌}
use mathlib.Core.Logic.{◌⊎◌, inl, inr, ◌↔◌, ◌≢◌, ⊎_elim}
use mathlib.Core.Bool.{false}
use mathlib.Core.List.{List}
use Prim.Native.Nat.{ℕ, ◌+◌, ◌≤◌, ◌<◌}
use native.Mathlib.Nat.{eq-zero-or-pos, ne_of_gt}
use native.Mathlib.Omega.{arith}
use borrow.Author.Tests.{eqb-true, eqb-false}
use lib.Dec.{eqb}
use lib.ListN.{length}
use Rattle.refusal.specs.declared.Refusal.{Refusal}
use Rattle.refusal.specs.declared.Refusal.TheVariants.{Empty, Many, Zero, Long, Order, Cycle, Tight, Size, Version, Dosing, Record, Report, Room, Spans, Stray}
use Rattle.refusal.specs.Order.{accepted, or_else}
use Rattle.refusal.proofs.Order.{passes}
use Rattle.rule.proofs.Tests.{split, side}
use Rattle.reserve.specs.Check.{table_refusal}
use Rattle.reserve.specs.Exactly.{Counted, RowsGives, TableGives}
use Rattle.reserve.proofs.Exactly.{exact, table_gives}
use Rattle.tablefile.specs.Layout.{length_for, length_field, following, version_byte, count_byte, table_from}
use Rattle.tablefile.specs.Answers.{head_refusal, file_refusal}
use Rattle.tablefile.specs.Exactly.{Unmatched, Matched, Versioned, RightLength, Framed, FileGives}
use Rattle.tablefile.proofs.HeadCases.{head_under, head_differs, head_version, head_empty, head_many, head_size, head_none}

same : (m n : ℕ) → (m ≡ n) ⊎ (m ≢ n)
same m n = ⊎_elim (λ e. inl (eqb-true m n e)) (λ e. inr (eqb-false m n e)) (split (eqb m n))

-- ---- what is said of each refusal brings it about
module _ (s : List ℕ) where
  abbrev n : ℕ
  n = count_byte s

  -- a refusal of the head is the file's
  by_head : (f : Option Refusal) → accepted f ≡ false → head_refusal s ≡ f → file_refusal s ≡ f
  unfolding file_refusal or_else
  by_head f a e = rw (e, a)

  -- as the code asks it
  field : Matched s → length_field s + 2 ≡ length s
  field m = omega (arith, m.0, m.1)

  given_unmatched : Unmatched s → file_refusal s ≡ Some Size
  given_unmatched (inl l) = by_head (Some Size) refl (head_under s l)
  given_unmatched (inr d) =
      ⊎_elim (λ (l : length s < 4). by_head (Some Size) refl (head_under s l)) (λ (l : 4 ≤ length s). by_head (Some Size) refl (head_differs s l (length_field s) refl (λ e. d (omega arith)))) (side (length s) 4)

  given_version : Matched s → version_byte s ≢ 1 → file_refusal s ≡ Some Version
  given_version w d = by_head (Some Version) refl (head_version s w.0 (length_field s) refl (field w) (version_byte s) refl d)

  module _ (v : Versioned s) where
    given_empty : n ≡ 0 → file_refusal s ≡ Some Empty
    given_empty e = by_head (Some Empty) refl (head_empty s v.0.0 (length_field s) refl (field v.0) (version_byte s) refl v.1 n refl e)

    given_many : 16 < n → file_refusal s ≡ Some Many
    given_many l = by_head (Some Many) refl (head_many s v.0.0 (length_field s) refl (field v.0) (version_byte s) refl v.1 n refl (λ z. omega arith) l)

    module _ (c : Counted (table_from s)) where
      given_size : (RightLength s → ⊥) → file_refusal s ≡ Some Size
      unfolding table_from
      given_size d = by_head (Some Size) refl (head_size s v.0.0 (length_field s) refl (field v.0) (version_byte s) refl v.1 n refl (ne_of_gt c.0) c.1 d)

      -- after the head, what the table gives
      given_rows : RightLength s → (f : Option Refusal) → TableGives (table_from s) f → file_refusal s ≡ f
      unfolding table_from file_refusal
      given_rows l f g =
          let h = head_none s v.0.0 (length_field s) refl (field v.0) (version_byte s) refl v.1 n refl (ne_of_gt c.0) c.1 l in
          sym (passes (head_refusal s) (table_refusal (table_from s)) h) ∙ (table_gives (table_from s) f).1 g

  -- nothing gives the variants that have no clause here
  given_if : (f : Option Refusal) → FileGives s f → file_refusal s ≡ f
  unfolding FileGives TableGives RowsGives table_from
  given_if None g = given_rows g.0.0 g.1.0.0 g.0.1 None g.1
  given_if (Some Empty) g = given_empty g.0 g.1
  given_if (Some Many) g = given_many g.0 g.1
  given_if (Some (Zero k)) g = given_rows g.0.0 g.1.counted g.0.1 (Some (Zero k)) g.1
  given_if (Some (Long k)) g = given_rows g.0.0 g.1.counted g.0.1 (Some (Long k)) g.1
  given_if (Some (Order k)) g = given_rows g.0.0 g.1.counted g.0.1 (Some (Order k)) g.1
  given_if (Some Cycle) g = given_rows g.0.0 g.1.0 g.0.1 (Some Cycle) g.1
  given_if (Some (Tight k)) g = given_rows g.0.0 g.1.0.0 g.0.1 (Some (Tight k)) g.1
  given_if (Some Size) (inl c) = given_unmatched c
  given_if (Some Size) (inr g) = given_size g.0 g.1 g.2
  given_if (Some Version) g = given_version g.0 g.1
  given_if (Some Room) g = elim g [ ]
  given_if (Some Record) g = elim g [ ]
  given_if (Some Report) g = elim g [ ]
  given_if (Some Stray) g = elim g [ ]
  given_if (Some Dosing) g = elim g [ ]
  given_if (Some Spans) g = elim g [ ]

  -- ---- of every file one of these things can be said
  abbrev SomeGives : Type 0
  SomeGives = (f : Option Refusal) × FileGives s f

  framed_gives : Framed s → (f : Option Refusal) → TableGives (table_from s) f → FileGives s f
  unfolding FileGives TableGives
  framed_gives r None g = (r, g)
  framed_gives r (Some Empty) g = (r.0, g)
  framed_gives r (Some Many) g = (r.0, g)
  framed_gives r (Some (Zero k)) g = (r, g)
  framed_gives r (Some (Long k)) g = (r, g)
  framed_gives r (Some (Order k)) g = (r, g)
  framed_gives r (Some Cycle) g = (r, g)
  framed_gives r (Some (Tight k)) g = (r, g)
  framed_gives r (Some Room) g = elim g [ ]
  framed_gives r (Some Record) g = elim g [ ]
  framed_gives r (Some Report) g = elim g [ ]
  framed_gives r (Some Stray) g = elim g [ ]
  framed_gives r (Some Size) g = elim g [ ]
  framed_gives r (Some Version) g = elim g [ ]
  framed_gives r (Some Dosing) g = elim g [ ]
  framed_gives r (Some Spans) g = elim g [ ]

  versioned_gives : Versioned s → SomeGives
  unfolding FileGives TableGives RowsGives table_from
  versioned_gives v =
      ⊎_elim (λ (e : n ≡ 0). (Some Empty, (v, e)))
      (λ (p : 0 < n).
      ⊎_elim (λ (l : 16 < n). (Some Many, (v, l)))
      (λ (l : n ≤ 16).
      ⊎_elim (λ (e : RightLength s).
      let f = table_refusal (table_from s) in
      (f, framed_gives (v, e) f ((table_gives (table_from s) f).0 refl)))
      (λ d. (Some Size, inr (v, (p, l), d))) (same (length_field s) (length_for n))) (side 16 n))
      (eq-zero-or-pos n)

  some_gives : SomeGives
  unfolding FileGives
  some_gives =
      ⊎_elim (λ (l : length s < 4). (Some Size, inl (inl l)))
      (λ (l : 4 ≤ length s).
      ⊎_elim (λ (e : length_field s ≡ following s).
      ⊎_elim (λ (v : version_byte s ≡ 1). versioned_gives ((l, e), v)) (λ d. (Some Version, ((l, e), d))) (same (version_byte s) 1))
      (λ d. (Some Size, inl (inr d))) (same (length_field s) (following s)))
      (side (length s) 4)

-- 'Order for a file': each number exactly when document 01 says and no earlier one applies
pub file_gives : (s : List ℕ) (f : Option Refusal) → (file_refusal s ≡ f) ↔ FileGives s f
file_gives s = exact (FileGives s) (given_if s) (some_gives s)
