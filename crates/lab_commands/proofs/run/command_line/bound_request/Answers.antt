use Rattle.std.proofs.Common.{rules}
use Rattle.lab_commands.proofs.run.command_line.bound_request.Goals as goal

pub returns-clause-name : goal.returns-clause-name
returns-clause-name c = search rules

pub returns-clause-some : goal.returns-clause-some
returns-clause-some c = search rules
