use mir.Val.{bool_byte}
use Rattle.std.proofs.Common.{ap, refl, ◌∙◌}
use Rattle.flight.proofs.Ahead.{guesses-less}
use Rattle.flight.proofs.flight.guesses_left.Goals as goal

pub returns : goal.returns
returns c r es is within same = guesses-less c.args.guessed r es c.from.result _ is c.ranges.guessed.fits within (c.from.ensures ∙ ap bool_byte same) refl
