use Rattle.entry_stages.proofs.prediction.guessed_apart.Goals as goal

pub returns-clause-stated : goal.returns-clause-stated
returns-clause-stated g c = c.guessed.ensures.stated
