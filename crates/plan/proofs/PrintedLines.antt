-- The lines: each stands where its job's first slot stands, and a look from the first row on finds it.
-- Assumes nothing.
use mathlib.Core.Path.{◌≡◌, refl, sym, ap, ◌∙◌}
use mathlib.Core.Logic.{⊎_elim}
use mathlib.Core.List.{List, ◌∷◌, ◌++◌, map, map-append}
use Prim.Native.Nat.{ℕ, zero, suc, ◌+◌, ◌-◌, ◌/◌, ◌≤◌, ◌<◌}
use native.Mathlib.Numerals.{add-one}
use native.Mathlib.Omega.{arith}
use lib.ListN.{length, get_or, take, length-take, length-map, get_or-append, get_or-map, get_or-eq_default}
use lib.Seq.{get_or-append-add, get_or-take}
use Rattle.table.specs.declared.Row.{Row}
use Rattle.table.specs.declared.Table.{Table}
use Rattle.table.specs.Rows.{used, row_at}
use Rattle.table.specs.Windows.{opens}
use Rattle.rule.specs.Rule.{first}
use Rattle.rule.proofs.Tests.{side}
use Rattle.reserve.specs.Tables.{ends, whole}
use Rattle.reserve.specs.Lists.{jobs_of, job_firsts, row_firsts, first_slots}
use Rattle.reserve.specs.Turns.{Ready}
use Rattle.reserve.proofs.Ready.{good}
use Rattle.reserve.proofs.Scanning.{CountedTo, count_start, count_step}
use Rattle.plan.specs.declared.Line.{Line}
use Rattle.plan.specs.Lines.{job_lines, row_lines, plan_lines, no_line, Begins}

module _ (rs : List Row) where
  -- ---- the first slots of the lines are the list of first slots
  job_firsts_lem : (i j m : ℕ) → job_firsts rs i j m ≡ map (λ (l : Line). l.first) (job_lines rs i j m)
  unfolding job_firsts job_lines
  job_firsts_lem i j zero = refl
  job_firsts_lem i j (suc m) = ap (λ (l : List ℕ). first (ends rs) (whole rs) i (opens (row_at rs i) j) ∷ l) (job_firsts_lem i (suc j) m)

  row_firsts_lem : (i n : ℕ) → row_firsts rs i n ≡ map (λ (l : Line). l.first) (row_lines rs i n)
  unfolding row_firsts row_lines
  row_firsts_lem i zero = refl
  row_firsts_lem i (suc n) =
      ap (λ (l : List ℕ). l ++ row_firsts rs (suc i) n) (job_firsts_lem i 1 (jobs_of rs i))
      ∙ ap (λ (l : List ℕ). map (λ (l : Line). l.first) (job_lines rs i 1 (jobs_of rs i)) ++ l) (row_firsts_lem (suc i) n)
      ∙ sym (map-append (λ (l : Line). l.first) (job_lines rs i 1 (jobs_of rs i)) (row_lines rs (suc i) n))

  line_first : (k : ℕ) → get_or (first_slots rs) k 0 ≡ (get_or (plan_lines rs) k no_line).first
  unfolding first_slots plan_lines
  line_first k = ap (λ (l : List ℕ). get_or l k 0) (row_firsts_lem 0 (length rs)) ∙ get_or-map (λ (l : Line). l.first) (row_lines rs 0 (length rs)) k no_line

  pub lines_count : length (first_slots rs) ≡ length (plan_lines rs)
  unfolding first_slots plan_lines
  lines_count = ap length (row_firsts_lem 0 (length rs)) ∙ length-map (row_lines rs 0 (length rs)) (λ (l : Line). l.first)

  -- ---- the lines of one row
  job_count : (i j m : ℕ) → length (job_lines rs i j m) ≡ m
  unfolding job_lines
  job_count i j zero = refl
  job_count i j (suc m) = ap suc (job_count i (suc j) m)

  job_line : (i j m x : ℕ) → x < m → ((get_or (job_lines rs i j m) x no_line).row ≡ suc i) × ((get_or (job_lines rs i j m) x no_line).job ≡ j + x)
  unfolding job_lines
  job_line i j zero x l = absurd (omega arith)
  job_line i j (suc m) zero l = (refl, omega arith)
  job_line i j (suc m) (suc x) l = let more = job_line i (suc j) m x (omega arith) in (more.0, omega (arith, more.1))

  -- a row's own lines, and those of the rows after it
  own_line : (i n x : ℕ) → x < jobs_of rs i → get_or (row_lines rs i (suc n)) x no_line ≡ get_or (job_lines rs i 1 (jobs_of rs i)) x no_line
  unfolding row_lines
  own_line i n x l = get_or-append (job_lines rs i 1 (jobs_of rs i)) (row_lines rs (suc i) n) no_line x (omega (arith, job_count i 1 (jobs_of rs i)))

  later_line : (i n x : ℕ) → jobs_of rs i ≤ x → get_or (row_lines rs i (suc n)) x no_line ≡ get_or (row_lines rs (suc i) n) (x - jobs_of rs i) no_line
  unfolding row_lines
  later_line i n x l =
      let own = job_lines rs i 1 (jobs_of rs i) in
      let e : x ≡ length own + (x - jobs_of rs i) = omega (arith, job_count i 1 (jobs_of rs i)) in
      ap (λ (y : ℕ). get_or (own ++ row_lines rs (suc i) n) y no_line) e ∙ get_or-append-add own (row_lines rs (suc i) n) (x - jobs_of rs i) no_line

-- ---- the look for line k, with the rows before row i passed over and `left` lines to go in the rest
pub record Looking (rs : List Row) (k left i : ℕ) : Type 0 where
  pub counted : CountedTo rs i (k - left)
  pub small : left ≤ k
  pub same : get_or (plan_lines rs) k no_line ≡ get_or (row_lines rs i (length rs - i)) left no_line

pub look_start : {t : Table} {cycle : ℕ} → Ready t cycle → {rs : List Row} → rs ≡ used t → length rs ≤ 16 → (k : ℕ) → Looking rs k k 0
unfolding plan_lines
look_start r {rs} u w k =
    let z : k - k ≡ 0 = omega arith in
    let n : length rs ≡ length rs - 0 = omega arith in
    record { counted = rw (z, u) (count_start r (rw u at w)); small = omega arith; same = ap (λ (m : ℕ). get_or (row_lines rs 0 m) k no_line) n }

-- the code's rows are the table's
module _ {t : Table} {cycle : ℕ} (r : Ready t cycle) {rs : List Row} (u : rs ≡ used t) where
  module _ {i : ℕ} (l : i < length rs) where
    pub period_here : 0 < (row_at rs i).period
    period_here = let g = good r i (omega (arith, ap length u)) in rw u g.period

    are : cycle / (row_at rs i).period ≡ jobs_of rs i
    unfolding jobs_of
    are = rw u (rw r.is_cycle)

    module _ {k left : ℕ} (g : Looking rs k left i) where
      rest : length rs - i ≡ suc (length rs - suc i)
      rest = omega arith

      pub look_on : cycle / (row_at rs i).period ≤ left → Looking rs k (left - cycle / (row_at rs i).period) (i + 1)
      look_on h =
          let q : k - (left - cycle / (row_at rs i).period) ≡ k - left + cycle / (row_at rs i).period = omega (arith, g.small) in
          record {
            counted = rw (q, u) (count_step r (rw u at g.counted) (rw u at l) (rw u at are));
            small = omega (arith, g.small);
            same = g.same ∙ ap (λ (m : ℕ). get_or (row_lines rs i m) left no_line) rest ∙ later_line rs i (length rs - suc i) left (omega (arith, are)) ∙ rw (are, add-one);
          }

      -- the line is one of row i's
      module _ (h : left < cycle / (row_at rs i).period) where
        own : get_or (plan_lines rs) k no_line ≡ get_or (job_lines rs i 1 (jobs_of rs i)) left no_line
        own = g.same ∙ ap (λ (m : ℕ). get_or (row_lines rs i m) left no_line) rest ∙ own_line rs i (length rs - suc i) left (omega (arith, are))

        line : ((get_or (plan_lines rs) k no_line).row ≡ i + 1) × ((get_or (plan_lines rs) k no_line).job ≡ left + 1)
        line = let found = job_line rs i 1 (jobs_of rs i) left (omega (arith, are)) in rw own (omega (arith, found.0), omega (arith, found.1))

        -- past the last line there is no row
        within : k < length (first_slots rs)
        within =
            ⊎_elim (λ (a : k < length (plan_lines rs)). omega (arith, lines_count rs))
            (λ (a : length (plan_lines rs) ≤ k). absurd (omega (arith, line.0, ap (λ (x : Line). x.row) (get_or-eq_default (plan_lines rs) no_line {n = k} a))))
            (side k (length (plan_lines rs)))

        module _ (firsts : List ℕ) (begins : Begins (first_slots (used t)) firsts) where
          pub look_room : k < length firsts
          look_room = omega (arith, within, ap (λ (x : List Row). length (first_slots x)) u, ap length begins, length-take (length (first_slots (used t))) firsts)

          slot : get_or firsts k 0 ≡ (get_or (plan_lines rs) k no_line).first
          slot =
              let b : take (length (first_slots rs)) firsts ≡ first_slots rs = rw u begins in
              sym (get_or-take (length (first_slots rs)) firsts k 0 within) ∙ ap (λ (x : List ℕ). get_or x k 0) b ∙ line_first rs k

          pub look_found : ◌≡◌ {A = Line} (record { row = i + 1; job = left + 1; first = get_or firsts k 0 }) (get_or (plan_lines (used t)) k no_line)
          look_found = let row = sym line.0 in let job = sym line.1 in rw (row, job, slot) (ap (λ (x : List Row). get_or (plan_lines x) k no_line) u)

  -- there is no row left
  pub look_end : {k left i : ℕ} → Looking rs k left i → length rs ≤ i → no_line ≡ get_or (plan_lines (used t)) k no_line
  unfolding row_lines
  look_end {k} {left} {i} g h =
      let z : length rs - i ≡ 0 = omega arith in
      sym (g.same ∙ ap (λ (m : ℕ). get_or (row_lines rs i m) left no_line) z) ∙ ap (λ (x : List Row). get_or (plan_lines x) k no_line) u
