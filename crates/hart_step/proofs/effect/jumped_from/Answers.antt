use Rattle.std.proofs.Common.{ap, ◌∙◌}
use Rattle.hart_step.specs.Effects.{linked_to}
use Rattle.hart_step.proofs.effect.jumped_from.Goals as goal

pub returns : goal.returns
returns c = c.linked_to.ensures ∙ ap (linked_to c.args.pc) c.register_target.ensures
