use Rattle.std.proofs.Common.{codes, rules}
use Rattle.std.proofs.lemmas.Result.{IfOk-weaker}
use Rattle.clap.specs.Words.{new_app}
use Rattle.lab_commands.specs.CommandLine.{Is}
use Rattle.lab_commands.proofs.CommandParts.{Is-with_rule}
use Rattle.lab_commands.proofs.run.command_line.explain_command.Goals as goal

pub returns : goal.returns
returns c =
    let bare : Is (new_app (codes "explain")) c.after_help.result = search rules in
    IfOk-weaker c.arg.result _ _ (λ whole adds. (c.code.ensures.rule.0, c.code.ensures.rule.1, Is-with_rule c.after_help.result whole c.code.result _ _ bare c.code.ensures.rule.2 c.code.ensures.local adds)) c.arg.ensures
