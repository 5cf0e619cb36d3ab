-- Stages, and their parts side by side.
use Rattle.std.specs.Prelude.{◌≡◌, false, Option, Some, None}
use Rattle.hart_step.specs.declared.stop.Stop.{Stop}
use Rattle.hart_step.specs.declared.stop.Stop.TheVariants.{TargetMisaligned}
use Rattle.core_view.specs.declared.span.Bytes.{Bytes}
use Rattle.core_view.specs.declared.outcome.Access.{Access}
use Rattle.core_view.specs.declared.outcome.Access.TheVariants as access
use Rattle.core_view.specs.declared.outcome.Step.{Step}
use Rattle.core_view.specs.declared.outcome.Outcome.{Outcome}
use Rattle.core_view.specs.declared.outcome.Outcome.TheVariants as outcome
use Rattle.core_view.specs.declared.entry.Execution.{Execution}
use Rattle.core_view.specs.declared.entry.Stage.{Stage}
use Rattle.core_view.specs.declared.entry.Stage.TheVariants as stage
use Rattle.core_view.specs.declared.parts.StageName.{StageName}
use Rattle.core_view.specs.declared.parts.StageName.TheVariants.{Fetched, Queued, Issued, Done}
use Rattle.core_view.specs.declared.parts.OutcomeName.{OutcomeName}
use Rattle.core_view.specs.declared.parts.OutcomeName.TheVariants.{Stops, Free, Reads, Writes}
use Rattle.core_view.specs.declared.parts.Parts.{Parts}

-- ---- what is known of an instruction from its issue on

abbrev pub no_execution : Execution
no_execution = record { due = 0; miss = false; outcome = outcome.Stops TargetMisaligned }

-- of no use for one that is fetched or waits
abbrev pub execution_of : Stage → Execution
execution_of stage.Fetched = no_execution
execution_of stage.Queued = no_execution
execution_of (stage.Issued x) = x
execution_of (stage.Done x) = x

abbrev pub IsIssued : Stage → Type 0
IsIssued s = s ≡ stage.Issued (execution_of s)

-- the step of an outcome that goes on
abbrev pub step_in : Outcome → Option Step
step_in (outcome.Goes step) = Some step
step_in (outcome.Stops why) = None

-- why an outcome stops
abbrev pub stop_in : Outcome → Option Stop
stop_in (outcome.Goes step) = None
stop_in (outcome.Stops why) = Some why

abbrev pub no_step : Step
no_step = record { result = 0; next = 0; access = access.Free }

-- the step of an outcome, of no use where it stops
abbrev pub step_of : Outcome → Step
step_of (outcome.Goes step) = step
step_of (outcome.Stops why) = no_step

-- the access of an outcome: a stop has none
abbrev pub access_in : Outcome → Access
access_in o = (step_of o).access

-- ---- a stage of parts

-- an access by its name, where it is, and what it writes
abbrev pub access_named : OutcomeName → Bytes → Access
access_named Stops bytes = access.Free
access_named Free bytes = access.Free
access_named Reads bytes = access.Reads bytes.span
access_named Writes bytes = access.Writes bytes

abbrev pub outcome_named : OutcomeName → Stop → Step → Outcome
outcome_named Stops why step = outcome.Stops why
outcome_named Free why step = outcome.Goes step
outcome_named Reads why step = outcome.Goes step
outcome_named Writes why step = outcome.Goes step

abbrev pub stage_named : StageName → Execution → Stage
stage_named Fetched x = stage.Fetched
stage_named Queued x = stage.Queued
stage_named Issued x = stage.Issued x
stage_named Done x = stage.Done x

abbrev pub bytes_kept : Parts → Bytes
bytes_kept p = record { span = record { address = p.address; size = p.size }; value = p.value }

abbrev pub outcome_kept : Parts → Outcome
outcome_kept p = outcome_named p.outcome p.why (record { result = p.result; next = p.next; access = access_named p.outcome (bytes_kept p) })

abbrev pub execution_kept : Parts → Execution
execution_kept p = record { due = p.due; miss = p.miss; outcome = outcome_kept p }

abbrev pub stage_of : Parts → Stage
stage_of p = stage_named p.name (execution_kept p)

-- ---- the parts of a stage: 0 for what it hasn't

abbrev pub stage_name : Stage → StageName
stage_name stage.Fetched = Fetched
stage_name stage.Queued = Queued
stage_name (stage.Issued x) = Issued
stage_name (stage.Done x) = Done

abbrev pub access_name : Access → OutcomeName
access_name access.Free = Free
access_name (access.Reads span) = Reads
access_name (access.Writes bytes) = Writes

abbrev pub outcome_name : Outcome → OutcomeName
outcome_name (outcome.Goes step) = access_name step.access
outcome_name (outcome.Stops why) = Stops

abbrev pub why_of : Outcome → Stop
why_of (outcome.Goes step) = TargetMisaligned
why_of (outcome.Stops why) = why

abbrev pub bytes_of : Access → Bytes
bytes_of access.Free = record { span = record { address = 0; size = 0 }; value = 0 }
bytes_of (access.Reads span) = record { span = span; value = 0 }
bytes_of (access.Writes bytes) = bytes

abbrev pub parts_named : StageName → Execution → Parts
parts_named name x = record {
  name = name;
  outcome = outcome_name x.outcome;
  why = why_of x.outcome;
  miss = x.miss;
  size = (bytes_of (access_in x.outcome)).span.size;
  due = x.due;
  result = (step_of x.outcome).result;
  next = (step_of x.outcome).next;
  address = (bytes_of (access_in x.outcome)).span.address;
  value = (bytes_of (access_in x.outcome)).value;
}

abbrev pub parts_of : Stage → Parts
parts_of s = parts_named (stage_name s) (execution_of s)
