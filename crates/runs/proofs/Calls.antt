-- Calls of the public functions of `table`, `reserve` and `slots`, each with whatever answer and lent memory meet its contract, as the check reads it from the source.
-- Assumes nothing: these are definitions.
use mathlib.Core.List.{List}
use Prim.Native.Nat.{ℕ}
use denote.Triple.Clauses.{AtExit}
use contract.Lifetimes.{Lfts}
use borrow.Fn.Kinds.{ParamKind, ResultKind, Out, Dens, res_t, ended_of}
use Rattle.table.specs.declared.Table.{Table}
use Rattle.table.specs.Rows.{used}
use Rattle.table.proofs.check_rows.Kinds as check-rows-kinds
use Rattle.table.proofs.check_rows.Reads as check-rows
use Rattle.reserve.proofs.check.Kinds as check-kinds
use Rattle.reserve.proofs.check.Reads as check
use Rattle.reserve.proofs.from_clock.Kinds as from-clock-kinds
use Rattle.reserve.proofs.from_clock.Reads as from-clock
use Rattle.reserve.proofs.reservations.Kinds as reservations-kinds
use Rattle.reserve.proofs.reservations.Reads as reservations
use Rattle.reserve.proofs.first_slots.Kinds as first-slots-kinds
use Rattle.reserve.proofs.first_slots.Reads as first-slots
use Rattle.slots.specs.declared.Record.{Record}
use Rattle.slots.specs.Reports.{Outcome, run_of}
use Rattle.slots.proofs.fresh.Kinds as fresh-kinds
use Rattle.slots.proofs.fresh.Reads as fresh
use Rattle.slots.proofs.lost_fresh.Kinds as lost-fresh-kinds
use Rattle.slots.proofs.lost_fresh.Reads as lost-fresh
use Rattle.slots.proofs.Record.what_runs.Kinds as what-runs-kinds
use Rattle.slots.proofs.Record.what_runs.Reads as what-runs
use Rattle.slots.proofs.Record.waiting.Kinds as waiting-kinds
use Rattle.slots.proofs.Record.waiting.Reads as waiting
use Rattle.slots.proofs.Record.step.Kinds as step-kinds
use Rattle.slots.proofs.Record.step.Reads as step
use Rattle.slots.proofs.Record.run.Kinds as run_kinds
use Rattle.slots.proofs.Record.run.Reads as run
use Rattle.slots.proofs.Record.lost.Kinds as lost-kinds
use Rattle.slots.proofs.Record.lost.Reads as lost

-- a call: what it is given, and an answer and parameters at exit that meet the contract `post`
pub record Call {n : ℕ} (ps : List (ParamKind n)) (r : ResultKind n) (post : Out n ps r) : Type 0 where
  pub κs : Lfts n
  pub given : Dens κs ps
  pub answer : (res_t r κs).Denot
  pub left : AtExit (ended_of n ps r) κs
  pub meets : post κs given answer left

-- ---- `table::check_rows`, on a table
abbrev pub RowsCall : Type 0
RowsCall = Call check-rows-kinds.ps check-rows-kinds.r check-rows.Post

abbrev pub rows_table : RowsCall → Table
rows_table c = c.given.0

-- ---- `reserve::check`, on a table
abbrev pub CheckCall : Type 0
CheckCall = Call check-kinds.ps check-kinds.r check.Post

abbrev pub check_table : CheckCall → Table
check_table c = c.given.0

-- ---- `reserve::from_clock`, on a table, a clock and what is left of the current jobs
abbrev pub ClockCall : Type 0
ClockCall = Call from-clock-kinds.ps from-clock-kinds.r from-clock.Post

abbrev pub clock_table : ClockCall → Table
clock_table c = c.given.0

-- ---- `reserve::reservations`, on a table, with lent bytes
abbrev pub ListCall : Type 0
ListCall = Call reservations-kinds.ps reservations-kinds.r reservations.Post

module _ (c : ListCall) where
  abbrev pub list_table : Table
  list_table = c.given.0

  -- the lent bytes before
  abbrev pub old_list : List ℕ
  old_list = c.given.1.0.now

-- ---- `reserve::first_slots`, on a table, with lent places
abbrev pub FirstsCall : Type 0
FirstsCall = Call first-slots-kinds.ps first-slots-kinds.r first-slots.Post

module _ (c : FirstsCall) where
  abbrev pub firsts_table : Table
  firsts_table = c.given.0

  -- the lent places before
  abbrev pub old_firsts : List ℕ
  old_firsts = c.given.1.0.now

-- ---- `fresh`, on a table
abbrev pub FreshCall : Type 0
FreshCall = Call fresh-kinds.ps fresh-kinds.r fresh.Post

abbrev pub fresh_table : FreshCall → Table
fresh_table c = c.given.0

-- ---- `Record::what_runs`, at a record, on a table
abbrev pub AskCall : Type 0
AskCall = Call what-runs-kinds.ps what-runs-kinds.r what-runs.Post

module _ (c : AskCall) where
  abbrev pub asked_at : Record
  asked_at = c.given.0

  abbrev pub asked_table : Table
  asked_table = c.given.1.0

-- ---- `Record::waiting`, at a record, on a table
abbrev pub WaitCall : Type 0
WaitCall = Call waiting-kinds.ps waiting-kinds.r waiting.Post

module _ (c : WaitCall) where
  abbrev pub waits_at : Record
  waits_at = c.given.0

  abbrev pub waits_table : Table
  waits_table = c.given.1.0

-- ---- `Record::step`, from a record, on a table and a report
abbrev pub StepCall : Type 0
StepCall = Call step-kinds.ps step-kinds.r step.Post

module _ (c : StepCall) where
  abbrev pub step_from : Record
  step_from = c.given.0

  abbrev pub step_table : Table
  step_table = c.given.1.0

  abbrev pub step_report : ℕ
  step_report = c.given.1.1.0

-- ---- `Record::run`, from a record, on a table and reports, with a lent log and a lent buffer
abbrev pub RunCall : Type 0
RunCall = Call run_kinds.ps run_kinds.r run.Post

module _ (c : RunCall) where
  abbrev pub run_from : Record
  run_from = c.given.0

  abbrev pub run_table : Table
  run_table = c.given.1.0

  abbrev pub run_reports : List ℕ
  run_reports = c.given.1.1.0.now

  -- the run of them that the record and the table make
  abbrev pub run_outcome : Outcome
  run_outcome = run_of (used c.given.1.0) c.given.0 c.given.1.1.0.now

  -- the lent log before, and at exit
  abbrev pub old_log : List ℕ
  old_log = c.given.1.1.1.0.now

  abbrev pub new_log : List ℕ
  new_log = c.left.1.1.1.0.now

  -- the lent buffer before, and at exit
  abbrev pub old_buffer : List ℕ
  old_buffer = c.given.1.1.1.1.0.now

  abbrev pub new_buffer : List ℕ
  new_buffer = c.left.1.1.1.1.0.now

-- ---- `Record::lost`, from a record, on a table and reports
abbrev pub LostCall : Type 0
LostCall = Call lost-kinds.ps lost-kinds.r lost.Post

module _ (c : LostCall) where
  abbrev pub loss_from : Record
  loss_from = c.given.0

  abbrev pub loss_table : Table
  loss_table = c.given.1.0

  abbrev pub loss_reports : List ℕ
  loss_reports = c.given.1.1.0.now

-- ---- `lost_fresh`, on a table and reports
abbrev pub LostFreshCall : Type 0
LostFreshCall = Call lost-fresh-kinds.ps lost-fresh-kinds.r lost-fresh.Post

module _ (c : LostFreshCall) where
  abbrev pub loss_fresh_table : Table
  loss_fresh_table = c.given.0

  abbrev pub loss_fresh_reports : List ℕ
  loss_fresh_reports = c.given.1.0.now
