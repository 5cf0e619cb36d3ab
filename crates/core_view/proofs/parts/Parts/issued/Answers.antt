use Rattle.std.proofs.Common.{rules}
use Rattle.core_view.proofs.parts.Parts.issued.Goals as goal

pub returns-in-Reads-clause-stage : goal.returns-in-Reads-clause-stage
returns-in-Reads-clause-stage c = search rules

pub returns-in-Writes-clause-stage : goal.returns-in-Writes-clause-stage
returns-in-Writes-clause-stage c = search rules

pub returns-in-Stops-clause-stage : goal.returns-in-Stops-clause-stage
returns-in-Stops-clause-stage c = search rules
