use Rattle.std.proofs.Common.{rules}
use Rattle.checkpoint_file.proofs.reading.version.is_other_version.Goals as goal

pub returns-in-None : goal.returns-in-None
returns-in-None c = (λ no. search rules, λ o. absurd (c.in-None.ensures.only o.number o.parts))
