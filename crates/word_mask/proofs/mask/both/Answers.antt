use Rattle.word_mask.proofs.Words.{has_both}
use Rattle.word_mask.proofs.mask.both.Goals as goal

pub returns : goal.returns
returns c = has_both c.args.left c.args.right
