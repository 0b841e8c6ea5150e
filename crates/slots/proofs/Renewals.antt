-- The windows that open as the clock comes to a slot: the loop over the rows, from the last one down, with the waiting set and the next opening.
-- Assumes nothing.
use mathlib.Core.Path.{◌≡◌, refl, sym, ap, ap₂, ◌∙◌, subst}
use mathlib.Core.Logic.{⊎_elim}
use mathlib.Core.Bool.{true, false, cond}
use mathlib.Core.List.{List}
use Prim.Native.Nat.{ℕ, suc, ◌+◌, ◌-◌, ◌*◌, ◌≤◌, ◌<◌, min}
use native.Mathlib.Nat.{eq-or-lt_of_le}
use native.Mathlib.Omega.{arith}
use lib.ListN.{length, get_or, set, length-set}
use lib.Pow.{pow_mono}
use lib.Seq.{get_or-set_same, get_or-set_other, ext_get_or}
use Rattle.table.specs.declared.Row.{Row}
use Rattle.table.specs.declared.Table.{Table}
use Rattle.table.specs.Rows.{used, blank, row_at}
use Rattle.table.specs.Windows.{starts, window_end}
use Rattle.rule.specs.Slots.{unit}
use Rattle.rule.proofs.Tests.{split, side}
use Rattle.reserve.specs.Turns.{Ready}
use Rattle.reserve.proofs.Ready.{few, size, row_is, period_some}
use Rattle.slots.specs.declared.Job.{Job}
use Rattle.slots.specs.Records.{new_job, no_job, job_at}
use Rattle.slots.specs.OneSlot.{is_waiting, waits, renewed}
use Rattle.slots.specs.WaitingSet.{set_from}
use Rattle.slots.specs.Turns.{Quiet}
use Rattle.slots.proofs.Entries.{renewed_length, renewed_start, renewed_on, renewed_past}
use Rattle.slots.proofs.EntryLoops.{comes}
use Rattle.slots.proofs.SetLaws.{set_small, set_same}
use Rattle.slots.proofs.Openings.{end_after, end_small}

-- the rows from place k on are looked at; js are the entries before, xs those so far
pub record Renewal (t : Table) (cycle c : ℕ) (js xs : List Job) (x opens k : ℕ) : Type 0 where
  pub ready : Ready t cycle
  pub full : length t.rows ≡ 16
  pub entries : length js ≡ 16
  pub ticks : c < cycle
  pub fewer : t.n ≤ 16
  pub within : k ≤ t.n
  pub sixteen : length xs ≡ 16
  pub new : (j : ℕ) → k ≤ j → j < t.n → job_at xs j ≡ comes (used t) c js j
  pub below : (j : ℕ) → j < k → job_at xs j ≡ job_at js j
  pub past : (j : ℕ) → t.n ≤ j → job_at xs j ≡ job_at js j
  pub is_set : x ≡ set_from (waits xs) k (t.n - k)
  pub later : c < opens
  pub upto : opens ≤ cycle
  pub none : (j : ℕ) → k ≤ j → j < t.n → opens ≤ window_end (row_at (used t) j) c

pub renewal_start : {t : Table} {cycle : ℕ} → Ready t cycle → length t.rows ≡ 16 → (c : ℕ) → c < cycle → (js : List Job) → length js ≡ 16 → Renewal t cycle c js js 0 cycle t.n
unfolding set_from
renewal_start {t} {cycle} r e c l js s = record {
  ready = r;
  full = e;
  entries = s;
  ticks = l;
  fewer = few r;
  within = omega arith;
  sixteen = s;
  new = λ j u v. absurd (omega arith);
  below = λ j u. refl;
  past = λ j u. refl;
  is_set = (let z : t.n - t.n ≡ 0 = omega arith in rw z refl);
  later = l;
  upto = omega arith;
  none = λ j u v. absurd (omega arith);
}

module _ {t : Table} {cycle c : ℕ} {js xs : List Job} {x opens k : ℕ} (g : Renewal t cycle c js xs x opens k) where
  module _ (some : 0 < k) where
    row : k - 1 < t.n
    row = omega (arith, g.within)

    is_row : k - 1 < length (used t)
    is_row = omega (arith, size g.ready g.full, row)

    same_row : get_or t.rows (k - 1) blank ≡ row_at (used t) (k - 1)
    same_row = row_is g.ready g.full (k - 1) row

    pub renewal_place : k - 1 < 16
    renewal_place = omega (arith, g.fewer, row)

    pub renewal_entry : k - 1 < length xs
    renewal_entry = omega (arith, g.sixteen, renewal_place)

    pub renewal_period : 0 < (get_or t.rows (k - 1) blank).period
    renewal_period = period_some g.ready g.full (k - 1) row

    pub renewal_small : window_end (get_or t.rows (k - 1) blank) c < 65536
    renewal_small = rw same_row (end_small g.ready refl is_row c g.ticks)

    -- there is room for one place more in the set
    pub renewal_room : x < 32768
    renewal_room = omega (arith, g.is_set, set_small (waits xs) k (t.n - k), pow_mono most)
      where
        most : t.n - k ≤ 15
        most = omega (arith, g.within, g.fewer)

    module _ (j : Job) (is : j ≡ cond (starts (get_or t.rows (k - 1) blank) c) (new_job (get_or t.rows (k - 1) blank)) (get_or xs (k - 1) no_job)) (y : ℕ)
        (joins : y ≡ unit (is_waiting j.state) + 2 * x) (end next : ℕ) (is_end : end ≡ window_end (get_or t.rows (k - 1) blank) c) (m : next ≡ min opens end) where
      abbrev ys : List Job
      ys = set xs (k - 1) j

      row_end : end ≡ window_end (row_at (used t) (k - 1)) c
      row_end = is_end ∙ ap (λ (r : Row). window_end r c) same_row

      here : job_at ys (k - 1) ≡ j
      here = get_or-set_same xs (k - 1) j no_job renewal_entry

      elsewhere : (i : ℕ) → (i ≡ k - 1 → ⊥) → job_at ys i ≡ job_at xs i
      elsewhere i ne = get_or-set_other xs (k - 1) i j no_job ne

      comes_here : j ≡ comes (used t) c js (k - 1)
      comes_here =
          is
          ∙ ap₂ (λ (r : Row) (y : Job). cond (starts r c) (new_job r) y) same_row (g.below (k - 1) (omega arith))

      is_set' : y ≡ set_from (waits ys) (k - 1) (t.n - (k - 1))
      unfolding set_from
      is_set' =
          let u : t.n - (k - 1) ≡ suc (t.n - k) = omega (arith, g.within) in
          let v : suc (k - 1) ≡ k = omega arith in
          let w : waits ys (k - 1) ≡ is_waiting j.state = ap (λ (y : Job). is_waiting y.state) here in
          let tail : set_from (waits xs) k (t.n - k) ≡ set_from (waits ys) k (t.n - k)
          = set_same (waits xs) (waits ys) k (t.n - k) (λ i l h. sym (ap (λ (y : Job). is_waiting y.state) (elsewhere i (λ q. omega arith)))) in
          rw (u, v) (joins ∙ ap₂ (λ (p q : ℕ). p + 2 * q) (sym (ap unit w)) (g.is_set ∙ tail))

      pub renewal_step : Renewal t cycle c js ys y next (k - 1)
      renewal_step = record {
        ready = g.ready;
        full = g.full;
        entries = g.entries;
        ticks = g.ticks;
        fewer = g.fewer;
        within = omega (arith, g.within);
        sixteen = length-set xs (k - 1) j ∙ g.sixteen;
        new = λ i l u. ⊎_elim (λ (q : k - 1 ≡ i). subst (λ (n : ℕ). job_at ys n ≡ comes (used t) c js n) q (here ∙ comes_here)) (λ (v : k - 1 < i). elsewhere i (λ q. omega arith) ∙ g.new i (omega arith) u) (eq-or-lt_of_le l);
        below = λ i l. elsewhere i (λ q. omega arith) ∙ g.below i (omega arith);
        past = λ i l. elsewhere i (λ q. omega (arith, row)) ∙ g.past i l;
        is_set = is_set';
        later = omega (arith, g.later, m, row_end, end_after g.ready refl is_row c g.ticks);
        upto = omega (arith, g.upto, m);
        none = λ i l u.
            ⊎_elim
            (λ (q : k - 1 ≡ i). omega (arith, m, row_end, ap (λ (n : ℕ). window_end (row_at (used t) n) c) q))
            (λ (v : k - 1 < i). omega (arith, m, g.none i (omega arith) u)) (eq-or-lt_of_le l);
      }

  -- each row is looked at
  module _ (end : k ≤ 0) where
    pub renewal_jobs : xs ≡ renewed c (used t) js
    renewal_jobs = ext_get_or no_job xs (renewed c (used t) js) (g.sixteen ∙ sym (renewed_length c (used t) js ∙ g.entries)) each
      where
        each : (j : ℕ) → j < length xs → get_or xs j no_job ≡ get_or (renewed c (used t) js) j no_job
        each j u =
            ⊎_elim
            (λ (v : j < t.n).
            g.new j (omega arith) v
            ∙ ⊎_elim
            (λ (h : starts (row_at (used t) j) c ≡ true). rw h (sym (renewed_start c (used t) js j (omega (arith, size g.ready g.full)) (omega (arith, g.entries, g.sixteen)) h)))
            (λ (h : starts (row_at (used t) j) c ≡ false). rw h (sym (renewed_on c (used t) js j h)))
            (split (starts (row_at (used t) j) c)))
            (λ (v : t.n ≤ j). g.past j v ∙ sym (renewed_past c (used t) js j (omega (arith, size g.ready g.full))))
            (side j t.n)

    pub renewal_set : x ≡ set_from (waits xs) 0 t.n
    renewal_set =
        let z : k ≡ 0 = omega arith in
        let y : t.n - 0 ≡ t.n = omega arith in
        g.is_set ∙ rw (z, y) refl

    pub renewal_quiet : Quiet (used t) cycle c opens
    renewal_quiet = record { later = g.later; within = g.upto; none = λ j u. g.none j (omega arith) (omega (arith, size g.ready g.full)) }
