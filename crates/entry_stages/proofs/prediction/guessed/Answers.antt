use Rattle.std.proofs.Common.{refl}
use Rattle.entry_stages.proofs.prediction.guessed.Goals as goal

pub returns-clause-stated : goal.returns-clause-stated
returns-clause-stated g c = (c.guess-answer.result, c.guess-answer.ensures.answer, refl)
