-- What the refusals leave of the rows, and what a sound record has, as facts.
-- Assumes nothing.
use Rattle.std.specs.Prelude.{None}
use mathlib.Core.Path.{◌≡◌, sym, ap, ◌∙◌}
use mathlib.Core.Bool.{Bool, true, not, ◌&&◌}
use mathlib.Core.List.{List}
use Prim.Native.Nat.{ℕ, ◌≤◌, ◌<◌}
use native.Mathlib.Omega.{arith}
use borrow.Author.Tests.{eqb-true, eq-eqb, ltb-true, ltb-false, lt-ltb, not-false}
use lib.Dec.{ltb, eqb}
use lib.ListN.{length, length-take}
use Rattle.refusal.specs.declared.Refusal.TheVariants.{Tight, Record as NotSound}
use Rattle.refusal.specs.Order.{given}
use Rattle.refusal.proofs.Order.{passes, none_first, none_later, given_not}
use Rattle.table.specs.declared.Row.{Row}
use Rattle.table.specs.declared.Table.{Table}
use Rattle.table.specs.Rows.{used, row_at, cycle_of}
use Rattle.table.proofs.Check.{Accepted, accepted_pos}
use Rattle.rule.specs.Rule.{tight_row}
use Rattle.rule.proofs.Tests.{and_left, and_right, and_both}
use Rattle.rule.proofs.Every.{every_at, every_if}
use Rattle.rule.proofs.Enough.{Enough, tight_enough, enough_tight}
use Rattle.reserve.specs.Tables.{ends}
use Rattle.reserve.specs.Check.{tight_of, table_refusal}
use Rattle.reserve.proofs.Tables.{AllGood}
use Rattle.reserve.proofs.Verdict.{table_accepted}
use Rattle.slots.specs.declared.Record.{Record}
use Rattle.slots.specs.Records.{job_at}
use Rattle.slots.specs.Sound.{job_fits, jobs_fit, claims_of, sound, record_refusal}

-- what the refusals 1 to 7 leave of the rows
pub record Usable (rs : List Row) : Type 0 where
  pub good : AllGood rs
  pub few : length rs ≤ 16
  pub cycle : 0 < cycle_of rs
  pub roomy : tight_of rs ≡ 0

pub table_usable : (t : Table) → table_refusal t ≡ None → Usable (used t)
unfolding table_refusal used
table_usable t z =
    let a : Accepted t = table_accepted t z in
    let rule = given_not (ltb 0 (tight_of (used t))) (Tight (tight_of (used t))) (none_later _ _ z) in
    record {
      good = a.good;
      few = omega (arith, a.few, length-take t.n t.rows);
      cycle = accepted_pos t a;
      roomy = omega (arith, ltb-false 0 (tight_of (used t)) rule);
    }

-- a sound record's three points: the clock is in the cycle, each job has what its state says, and the rule leaves no job short
pub record Sound (rs : List Row) (q : Record) : Type 0 where
  pub sixteen : length q.jobs ≡ 16
  pub ticks : q.clock < cycle_of rs
  pub jobs_fit_lem : (i : ℕ) → i < length rs → job_fits (row_at rs i) (job_at q.jobs i) ≡ true
  pub enough : Enough (ends rs) (claims_of rs q) (length rs) q.clock (cycle_of rs)

module _ (rs : List Row) (q : Record) where
  ticking : Bool
  ticking = ltb q.clock (cycle_of rs)

  tight : ℕ
  tight = tight_row (ends rs) (claims_of rs q) q.clock (cycle_of rs) (length rs)

  fits : ℕ → Bool
  fits i = job_fits (row_at rs i) (job_at q.jobs i)

  pub sound_at : length q.jobs ≡ 16 → sound rs q ≡ true → Sound rs q
  unfolding sound jobs_fit ticking tight fits
  sound_at e h =
      let rest : (jobs_fit rs q.jobs && eqb tight 0) ≡ true = and_right ticking (jobs_fit rs q.jobs && eqb tight 0) h in
      let t : q.clock < cycle_of rs = ltb-true q.clock (cycle_of rs) (and_left ticking (jobs_fit rs q.jobs && eqb tight 0) h) in
      record {
        sixteen = e;
        ticks = t;
        jobs_fit_lem = every_at fits (length rs) (and_left (jobs_fit rs q.jobs) (eqb tight 0) rest);
        enough = tight_enough (ends rs) (claims_of rs q) (length rs) q.clock (cycle_of rs) t (eqb-true tight 0 (and_right (jobs_fit rs q.jobs) (eqb tight 0) rest));
      }

  pub sound_if : Sound rs q → sound rs q ≡ true
  unfolding sound jobs_fit ticking tight fits
  sound_if s =
      and_both ticking (jobs_fit rs q.jobs && eqb tight 0) (lt-ltb q.clock (cycle_of rs) s.ticks)
      (and_both (jobs_fit rs q.jobs) (eqb tight 0) (every_if fits (length rs) s.jobs_fit_lem)
      (eq-eqb tight 0 (enough_tight (ends rs) (claims_of rs q) (length rs) q.clock (cycle_of rs) s.enough)))

-- ---- refusals 1 to 7 and 9 leave exactly the sound records of accepted tables
module _ (t : Table) (q : Record) where
  pub none_table : record_refusal t q ≡ None → table_refusal t ≡ None
  unfolding record_refusal
  none_table z = none_first _ _ z

  pub none_sound : record_refusal t q ≡ None → sound (used t) q ≡ true
  unfolding record_refusal
  none_sound z = not-false (sound (used t) q) (given_not (not (sound (used t) q)) NotSound (none_later _ _ z))

  pub sound_none : table_refusal t ≡ None → sound (used t) q ≡ true → record_refusal t q ≡ None
  unfolding record_refusal
  sound_none z h = sym (passes (table_refusal t) (given (not (sound (used t) q)) NotSound) z) ∙ ap (λ (b : Bool). given (not b) NotSound) h
