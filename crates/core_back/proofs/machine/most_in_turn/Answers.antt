use Rattle.std.proofs.Common.{ap, ◌∙◌}
use Rattle.std.specs.Prelude.{min}
use Rattle.core_back.proofs.machine.most_in_turn.Goals as goal

pub returns : goal.returns
returns c = c.min-2.ensures ∙ ap (λ most. min most c.args.front_room) (c.from.ensures ∙ c.min.ensures)
