use Rattle.std.proofs.Common.{◌∙◌}
use Rattle.std.specs.Prelude.{◌==◌, ◌&&◌}
use Rattle.word_mask.proofs.Laws.{has_zero}
use Rattle.issue_queue.proofs.Masks.{cond_true}
use Rattle.issue_queue.proofs.places.bit.Goals as goal

pub returns : goal.returns
returns c = λ p. c.added.ensures p ∙ rw (has_zero p) (cond_true ((p == c.args.place) && c.args.flag))
