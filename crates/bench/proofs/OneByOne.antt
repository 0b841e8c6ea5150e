-- A list of reports by single slots, as the loop over it meets it.
-- Assumes nothing.
use mathlib.Core.Path.{◌≡◌, refl, sym, ap, ap₂, ◌∙◌}
use mathlib.Core.Bool.{Bool, true, false}
use mathlib.Core.List.{List, [], ◌∷◌, ◌++◌, append_assoc, append-nil}
use Prim.Native.Nat.{ℕ, ◌+◌, ◌≤◌, ◌<◌}
use native.Mathlib.Omega.{arith}
use native.Mathlib.Numerals.{add-one}
use lib.ListN.{length, get_or, set, drop, length-append, length-drop, drop_of_length-le}
use lib.Seq.{drop-cons, set-append_seam}
use Rattle.std.proofs.lemmas.Bool.{false≢true}
use Rattle.std.specs.Option.{is_some}
use Rattle.std.specs.Prelude.{Option, Some, None}
use Rattle.refusal.specs.declared.Refusal.{Refusal}
use Rattle.refusal.specs.Order.{accepted}
use Rattle.table.specs.declared.Table.{Table}
use Rattle.slots.specs.declared.Record.{Record}
use Rattle.slots.specs.declared.Started.{Started}
use Rattle.slots.specs.declared.Stepped.{Stepped}
use Rattle.slots.specs.Records.{started_for}
use Rattle.slots.specs.Answers.{stepped_by}
use Rattle.bench.specs.Lists.{table_in, start_in, singles, single_slots, single_log}

-- ---- single slots, case by case
singles_no_reports : (t : Table) (q : Record) (old : List ℕ) → singles t q [] old ≡ []
unfolding singles
singles_no_reports t q old = refl

singles_no_room : (t : Table) (q : Record) (reps : List ℕ) → singles t q reps [] ≡ []
unfolding singles
singles_no_room t q [] = refl
singles_no_room t q (rep ∷ reps) = refl

module _ (t : Table) (q : Record) (rep : ℕ) (reps : List ℕ) (b : ℕ) (old : List ℕ) (s : Stepped) (e : s ≡ stepped_by t q rep) where
  singles_on : s.refusal ≡ None → singles t q (rep ∷ reps) (b ∷ old) ≡ s.ran ∷ singles t s.next reps old
  unfolding singles
  singles_on d = rw (sym e, ap accepted d) refl

  singles_stop : accepted s.refusal ≡ false → singles t q (rep ∷ reps) (b ∷ old) ≡ []
  unfolding singles
  singles_stop p = rw (sym e, p) refl

-- a refusal that the code has seen
told : (f : Option Refusal) → is_some f ≡ true → accepted f ≡ false
told None e = absurd (false≢true e)
told (Some f) e = refl

-- the first of what is left of a list
first : (xs : List ℕ) (i : ℕ) → i < length xs → drop i xs ≡ get_or xs i 0 ∷ drop (i + 1) xs
first xs i l = rw add-one (drop-cons xs i 0 l)

-- ---- the loop: the bytes of the accepted slots stand in the log, and the slots left give the rest
pub record Going (t : Table) (start : Record) (reps old log : List ℕ) (q : Record) (i : ℕ) : Type 0 where
  pub room : i ≤ length old
  pub bytes : List ℕ
  pub count : length bytes ≡ i
  pub is_log : log ≡ bytes ++ drop i old
  pub rest : singles t start reps old ≡ bytes ++ singles t q (drop i reps) (drop i old)

module _ {t : Table} {start : Record} {reps old log : List ℕ} {q : Record} {i : ℕ} (g : Going t start reps old log q i) where
  pub going_size : length log ≡ length old
  going_size = ap length g.is_log ∙ length-append g.bytes (drop i old) ∙ omega (arith, g.count, length-drop i old, g.room)

  -- both lists go on
  ahead : i < length reps → i < length log
      → singles t start reps old ≡ g.bytes ++ singles t q (get_or reps i 0 ∷ drop (i + 1) reps) (get_or old i 0 ∷ drop (i + 1) old)
  ahead l m =
      g.rest
      ∙ ap₂ (λ (x y : List ℕ). g.bytes ++ singles t q x y) (first reps i l) (first old i (omega (arith, going_size)))

  module _ (l : i < length reps) (m : i < length log) (s : Stepped) (e : s ≡ stepped_by t q (get_or reps i 0)) where
    pub going_step : s.refusal ≡ None → Going t start reps old (set log i s.ran) s.next (i + 1)
    going_step d = record {
      room = omega (arith, going_size);
      bytes = g.bytes ++ s.ran ∷ [];
      count = length-append g.bytes (s.ran ∷ []) ∙ omega (arith, g.count);
      is_log = wrote;
      rest = goes;
    }
      where
        wrote : set log i s.ran ≡ (g.bytes ++ s.ran ∷ []) ++ drop (i + 1) old
        wrote =
            ap₂ (λ (x : List ℕ) (k : ℕ). set x k s.ran) (g.is_log ∙ ap (λ (x : List ℕ). g.bytes ++ x) (first old i (omega (arith, going_size)))) (sym g.count)
            ∙ set-append_seam g.bytes (get_or old i 0) (drop (i + 1) old) s.ran
            ∙ sym (append_assoc g.bytes (s.ran ∷ []) (drop (i + 1) old))

        goes : singles t start reps old ≡ (g.bytes ++ s.ran ∷ []) ++ singles t s.next (drop (i + 1) reps) (drop (i + 1) old)
        goes =
            ahead l m
            ∙ ap (λ (x : List ℕ). g.bytes ++ x) (singles_on t q (get_or reps i 0) (drop (i + 1) reps) (get_or old i 0) (drop (i + 1) old) s e d)
            ∙ sym (append_assoc g.bytes (s.ran ∷ []) (singles t s.next (drop (i + 1) reps) (drop (i + 1) old)))

    stops : accepted s.refusal ≡ false → singles t start reps old ≡ g.bytes
    stops p =
        ahead l m
        ∙ ap (λ (x : List ℕ). g.bytes ++ x) (singles_stop t q (get_or reps i 0) (drop (i + 1) reps) (get_or old i 0) (drop (i + 1) old) s e p)
        ∙ append-nil g.bytes

  out_of_room : length log ≤ i → singles t start reps old ≡ g.bytes
  out_of_room u =
      let full : length old ≤ i = omega (arith, going_size) in
      g.rest
      ∙ ap (λ (y : List ℕ). g.bytes ++ singles t q (drop i reps) y) (drop_of_length-le old full)
      ∙ ap (λ (x : List ℕ). g.bytes ++ x) (singles_no_room t q (drop i reps))
      ∙ append-nil g.bytes

  ends : length reps ≤ i → singles t start reps old ≡ g.bytes
  ends u =
      g.rest
      ∙ ap (λ (x : List ℕ). g.bytes ++ singles t q x (drop i old)) (drop_of_length-le reps u)
      ∙ ap (λ (x : List ℕ). g.bytes ++ x) (singles_no_reports t q (drop i old))
      ∙ append-nil g.bytes

-- ---- what the loop leaves, over the file
module _ (file : List ℕ) (t : Table) (e : t ≡ table_in file) (s : Started) (d : s ≡ started_for t) where
  pub is_start : s.start ≡ start_in file
  unfolding start_in
  is_start = ap (λ (x : Started). x.start) (d ∙ ap started_for e)

module _ (file : List ℕ) (t : Table) (e : t ≡ table_in file) (s : Started) (d : s ≡ started_for t) {reps old log : List ℕ} {q : Record} {i : ℕ} (g : Going t s.start reps old log q i) where
  over : single_slots file reps old ≡ singles t s.start reps old
  unfolding single_slots
  over = sym (ap₂ (λ (y : Table) (x : Record). singles y x reps old) e (is_start file t e s d))

  -- the bytes so far are all there are
  module _ (h : singles t s.start reps old ≡ g.bytes) where
    all_slots : i ≡ length (single_slots file reps old)
    all_slots = sym (ap length (over ∙ h) ∙ g.count)

    all_log : log ≡ single_log file reps old
    unfolding single_log
    all_log = g.is_log ∙ ap₂ (λ (x : List ℕ) (k : ℕ). x ++ drop k old) (sym (over ∙ h)) all_slots

  module _ (l : i < length reps) (m : i < length log) (x : Stepped) (y : x ≡ stepped_by t q (get_or reps i 0)) (b : Bool) (w : b ≡ is_some x.refusal) (p : b ≡ true) where
    pub stops_slots : i ≡ length (single_slots file reps old)
    stops_slots = all_slots (stops g l m x y (told x.refusal (sym w ∙ p)))

    pub stops_log : log ≡ single_log file reps old
    stops_log = all_log (stops g l m x y (told x.refusal (sym w ∙ p)))

  module _ (u : length log ≤ i) where
    pub full_slots : i ≡ length (single_slots file reps old)
    full_slots = all_slots (out_of_room g u)

    pub full_log : log ≡ single_log file reps old
    full_log = all_log (out_of_room g u)

  module _ (u : length reps ≤ i) (v : i ≤ length reps) where
    pub ends_slots : length reps ≡ length (single_slots file reps old)
    ends_slots = let all : length reps ≡ i = omega arith in all ∙ all_slots (ends g u)

    pub ends_log : log ≡ single_log file reps old
    ends_log = all_log (ends g u)
