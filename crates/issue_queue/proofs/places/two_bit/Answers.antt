use Rattle.std.proofs.Common.{◌∙◌, rules}
use Rattle.std.specs.Prelude.{◌==◌}
use Rattle.word_mask.proofs.Laws.{has_zero}
use Rattle.issue_queue.proofs.Masks.{one_at}
use Rattle.issue_queue.proofs.places.two_bit.Goals as goal

pub returns-then-eq : goal.returns-then-eq
returns-then-eq c = λ p. has_zero p ∙ one_at (p == c.args.place) c.args.reading.now.first.awaited c.args.reading.now.second.awaited c.args.reading.now.first.register c.args.reading.now.second.register (search rules)
