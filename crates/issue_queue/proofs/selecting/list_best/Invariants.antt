use Rattle.issue_queue.proofs.Walks.{AreNamed}
use Rattle.issue_queue.proofs.selecting.list_best.Given as goal

abbrev pub invariant-loop-candidate : goal.invariant-loop-candidate
invariant-loop-candidate l = AreNamed l.slots l.best l.candidate-index l.word l.names.items
