-- Whether a fixed dose runs in the slot at the clock.
-- Assumes nothing: these are definitions.
use Rattle.std.specs.Prelude.{Bool, ltb}
use Rattle.table.specs.declared.Table.{Table}
use Rattle.slots.specs.declared.Record.{Record}
use Rattle.std.specs.Result.{result_unwrap_or}
use Rattle.slots.specs.Answers.{asked_of}

-- the log's byte is '16+k for an alternate unit'; a refusal counts as 0, an idle slot
unfoldable pub fixed_dose : Table → Record → Bool
fixed_dose t q = ltb 16 (result_unwrap_or (asked_of t q) 0)
