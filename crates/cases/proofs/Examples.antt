-- P1 to P11 hold of the definitions: the one statement, over the one table of cases.
-- Assumes nothing.
use Rattle.refusal.specs.Order.{or_else, beside}
use Rattle.table.specs.Gcd.{gcd_in, gcd_of, lcm_of}
use Rattle.table.specs.Rows.{used, fold_of, cycle_of}
use Rattle.table.specs.Windows.{opens, starts, window_end, wants}
use Rattle.table.specs.Check.{fault_of, faults_of, rows_refusal}
use Rattle.rule.specs.Slots.{count, some, first_of, or_row, first_row, every}
use Rattle.rule.specs.Rule.{held, takes, holder, first, short, begins, lacks, tight_row, claimed}
use Rattle.rule.specs.Sweep.{holders}
use Rattle.reserve.specs.Tables.{ends, whole, claims}
use Rattle.reserve.specs.Check.{tight_of, table_refusal, table_check}
use Rattle.reserve.specs.Lists.{reservation_list, jobs_of, job_firsts, row_firsts, first_slots}
use Rattle.tablefile.specs.Layout.{word_bytes, row_bytes, rows_bytes, file_bytes, word_at, row_from, rows_from, table_from}
use Rattle.tablefile.specs.Answers.{head_refusal, file_refusal, read_as}
use Rattle.slots.specs.Records.{new_job, fresh_jobs, fresh_of, fresh_record, started_for}
use Rattle.slots.specs.Sound.{job_fits, jobs_fit, lefts, claims_of, sound, record_refusal}
use Rattle.slots.specs.OneSlot.{holder_at, lowest_waiting, what, byte_of, on_alternate, on_primary, worked, next_clock, renewed, step_by, step_of}
use Rattle.slots.specs.Reports.{report_refusal, run_of}
use Rattle.slots.specs.Answers.{asked_of, entry_refusal, outcome_of, ran_by, log_after}
use Rattle.slots.specs.LostUnits.{sum}
use Rattle.cases.specs.Cases.{needed, places, from_fresh, log_from_fresh, first_after, Each, cases}
use Rattle.cases.proofs.Test.{same, same_rows, passes, All, none, ◌then◌, all_passed}

computed : All cases
unfolding passes needed sum from_fresh log_from_fresh first_after same same_rows places or_else beside gcd_in gcd_of lcm_of used fold_of cycle_of opens starts window_end wants fault_of faults_of rows_refusal count some first_of or_row first_row every held takes holder first short begins lacks tight_row claimed holders ends whole claims tight_of table_refusal table_check reservation_list jobs_of job_firsts row_firsts first_slots word_bytes row_bytes rows_bytes file_bytes word_at row_from rows_from table_from head_refusal file_refusal read_as new_job fresh_jobs fresh_of fresh_record started_for job_fits jobs_fit lefts claims_of sound record_refusal holder_at lowest_waiting what byte_of on_alternate on_primary worked next_clock renewed step_by step_of report_refusal run_of asked_of entry_refusal outcome_of ran_by log_after
computed = tt then tt then tt then tt then tt then tt then tt then tt then tt then tt then tt then tt then tt then tt then tt then tt then tt then tt then tt then tt then tt then none

pub examples : Each cases
examples = all_passed cases computed
