use Rattle.checkpoint_file.proofs.matching.after_text.Goals as goal

pub returns-in_err-origin-clause-only : goal.returns-in_err-origin-clause-only
returns-in_err-origin-clause-only g c rest e = absurd (c.in_err-origin.ensures.only _ e)
