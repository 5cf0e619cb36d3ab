use Rattle.std.proofs.Common.{ap}
use Rattle.word_mask.proofs.Laws.{has_zero}
use Rattle.issue_queue.specs.Board.{narrowed}
use Rattle.issue_queue.specs.Entries.{entry_at}
use Rattle.issue_queue.specs.Views.{as_entry}
use Rattle.issue_queue.proofs.slots.Slots.release.Goals as goal

pub returns-clause-slots : goal.returns-clause-slots
returns-clause-slots c = λ p. ap (λ held. narrowed c.args.self.now.waiters p (as_entry held (entry_at c.args.self.now.entries p))) (has_zero p)
