-- Demand 2, its part on files: 'The table file reads back to the rows it was written from, and each accepted file is what the writer gives for its rows.' Stated through the
-- contracts of `write` and `read` as the check reads them from the source: of whatever answers and lent bytes meet them. docs/PROMISES.md names these theorems.
-- Assumes nothing.
use Rattle.std.specs.Prelude.{Option, Some, None, Ok}
use Rattle.std.specs.Result.{result_err}
use mathlib.Core.Path.{◌≡◌, sym, ◌∙◌, ap}
use mathlib.Core.Logic.{◌↔◌}
use mathlib.Core.List.{List, ◌++◌}
use Prim.Native.Nat.{ℕ, ◌+◌, ◌*◌, ◌≤◌, ◌<◌}
use native.Mathlib.Omega.{arith}
use lib.ListN.{length, take, drop}
use lib.Seq.{take_at}
use denote.Triple.Clauses.{AtExit}
use contract.Lifetimes.{Lfts}
use borrow.Fn.Kinds.{Dens, res_t, ended_of}
use Rattle.refusal.specs.declared.Refusal.{Refusal}
use Rattle.refusal.specs.declared.Refusal.TheVariants.{Room}
use Rattle.refusal.proofs.Order.{ok_none, ok_figure, answer_refusal}
use Rattle.table.specs.declared.Table.{Table}
use Rattle.reserve.specs.Check.{table_refusal}
use Rattle.reserve.specs.Exactly.{TableGives, HandedGives}
use Rattle.reserve.specs.HandOut.{handed_refusal, handed}
use Rattle.reserve.proofs.HandedOut.{out_none, out_table, out_used, out_places}
use Rattle.reserve.proofs.Verdict.{table_accepted}
use Rattle.reserve.proofs.Exactly.{table_gives, handed_gives}
use Rattle.tablefile.specs.Layout.{file_bytes, table_from}
use Rattle.tablefile.specs.Answers.{file_refusal, read_as}
use Rattle.tablefile.specs.RoundTrips.{Places, Bytes, zeroed}
use Rattle.tablefile.specs.Exactly.{FileGives}
use Rattle.tablefile.proofs.FileLayout.{file_size}
use Rattle.tablefile.proofs.Exactly.{file_gives}
use Rattle.tablefile.proofs.RoundTrips.{read_back, was_read, read_places, written_back}
use Rattle.tablefile.proofs.read.Kinds as read-kinds
use Rattle.tablefile.proofs.read.Reads as read
use Rattle.tablefile.proofs.write.Kinds as write-kinds
use Rattle.tablefile.proofs.write.Reads as write

-- a call of `write`: the table and the lent bytes that it is given, its answer, and the lent bytes at exit
module _ (κs : Lfts 1) (given : Dens κs write-kinds.ps) (wrote : (res_t write-kinds.r κs).Denot) (left : AtExit (ended_of 1 write-kinds.ps write-kinds.r) κs) (meets : write.Post κs given wrote left) where
  abbrev t : Table
  t = given.0

  abbrev old : List ℕ
  old = given.1.0.now

  abbrev new : List ℕ
  new = left.1.0.now

  wrote_refusal : result_err wrote ≡ handed_refusal t (file_bytes t) old
  unfolding handed
  wrote_refusal = ap result_err meets.0 ∙ answer_refusal (handed_refusal t (file_bytes t) old) (length (file_bytes t))

  module _ (used : ℕ) (e : wrote ≡ Ok used) where
    wrote_none : handed_refusal t (file_bytes t) old ≡ None
    unfolding handed
    wrote_none = ok_none (handed_refusal t (file_bytes t) old) (length (file_bytes t)) used (sym meets.0 ∙ e)

    wrote_length : length (file_bytes t) ≡ used
    unfolding handed
    wrote_length = ok_figure (handed_refusal t (file_bytes t) old) (length (file_bytes t)) used (sym meets.0 ∙ e)

    wrote_file : take used new ≡ file_bytes t
    wrote_file =
        ap (λ (l : List ℕ). take used l) (meets.1 ∙ out_places t (file_bytes t) old wrote_none) ∙ take_at (file_bytes t) (drop (length (file_bytes t)) old) used wrote_length

  -- each of the writer's numbers exactly when document 01 says and no earlier one applies
  pub write_gives : (f : Option Refusal) → (result_err wrote ≡ f) ↔ HandedGives t (file_bytes t) old f
  write_gives f =
      (λ e. (handed_gives t (file_bytes t) old f).0 (sym wrote_refusal ∙ e), λ g. wrote_refusal ∙ (handed_gives t (file_bytes t) old f).1 g)

  -- 8: none of 1 to 7, and fewer than 4+6n bytes
  pub write_room : Places t → (result_err wrote ≡ Some Room) ↔ (TableGives t None × (length old < 4 + 6 * t.n))
  unfolding HandedGives
  write_room p =
      (λ e. let h = (write_gives (Some Room)).0 e in (h.0, omega (arith, h.1, size h.0)), λ h. (write_gives (Some Room)).1 (h.0, omega (arith, h.1, size h.0)))
    where
      size : TableGives t None → length (file_bytes t) ≡ 4 + 6 * t.n
      size g = file_size t p (table_accepted t ((table_gives t None).1 g)).few

  -- and one of `read`: the file, and the reading
  module _ (κs' : Lfts 1) (lent : Dens κs' read-kinds.ps) (got : (res_t read-kinds.r κs').Denot) (after : AtExit (ended_of 1 read-kinds.ps read-kinds.r) κs') (reads : read.Post κs' lent got after) where
    abbrev file : List ℕ
    file = lent.0.now

    -- what was written reads back to the rows, with zeros past them
    pub written_reads_back : Places t → (used : ℕ) → wrote ≡ Ok used → file ≡ take used new → got ≡ Ok (zeroed t)
    written_reads_back p used e f = reads ∙ ap read_as (f ∙ wrote_file used e) ∙ read_back t p (out_table t (file_bytes t) old (wrote_none used e))

    -- an accepted file is, byte for byte, what the writer gives for the table read from it
    pub accepted_is_written : Bytes file → got ≡ Ok t → length file ≤ length old → (wrote ≡ Ok (length file)) × (new ≡ file ++ drop (length file) old)
    accepted_is_written b e room =
        let r : read_as file ≡ Ok t = sym reads ∙ e in
        let f : file_bytes t ≡ file = written_back file t r b in
        let d : handed_refusal t (file_bytes t) old ≡ None = out_none t (file_bytes t) old (was_read file t r) (rw f room) in (
          meets.0 ∙ out_used t (file_bytes t) old d ∙ ap (λ (l : List ℕ). Ok (length l)) f,
          meets.1 ∙ out_places t (file_bytes t) old d ∙ ap (λ (l : List ℕ). l ++ drop (length l) old) f,
        )

-- the order of a file's refusals is document 01's: whatever meets the contract of `read` gives each number exactly when 01 says and no earlier one applies
pub read_gives : (κs : Lfts 1) (lent : Dens κs read-kinds.ps) (got : (res_t read-kinds.r κs).Denot) (after : AtExit (ended_of 1 read-kinds.ps read-kinds.r) κs) → read.Post κs lent got after
    → (f : Option Refusal) → (result_err got ≡ f) ↔ FileGives lent.0.now f
unfolding read_as
read_gives κs lent got after reads f =
    let e : result_err got ≡ file_refusal lent.0.now = ap result_err reads ∙ answer_refusal (file_refusal lent.0.now) (table_from lent.0.now) in
    (λ h. (file_gives lent.0.now f).0 (sym e ∙ h), λ g. e ∙ (file_gives lent.0.now f).1 g)

-- the files that are accepted are the bytes of the tables that are, with zeros past their rows: one definition of the bytes for both ways
pub read_exactly : (s : List ℕ) (t : Table) → Bytes s → (read_as s ≡ Ok t) ↔ (Places t × (table_refusal t ≡ None) × (zeroed t ≡ t) × (s ≡ file_bytes t))
read_exactly s t b = (to, from)
  where
    to : read_as s ≡ Ok t → Places t × (table_refusal t ≡ None) × (zeroed t ≡ t) × (s ≡ file_bytes t)
    to e =
        let p : Places t = read_places s t e in
        let c : table_refusal t ≡ None = was_read s t e in
        let f : s ≡ file_bytes t = sym (written_back s t e b) in
        (p, c, ok_figure None (zeroed t) t (sym (read_back t p c) ∙ ap read_as (sym f) ∙ e), f)

    from : Places t × (table_refusal t ≡ None) × (zeroed t ≡ t) × (s ≡ file_bytes t) → read_as s ≡ Ok t
    from h = ap read_as h.3 ∙ read_back t h.0 h.1 ∙ ap Ok h.2
