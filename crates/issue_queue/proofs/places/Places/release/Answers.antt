use Rattle.std.proofs.Common.{true, inl, refl}
use Rattle.issue_queue.specs.IssueQueue.{released}
use Rattle.issue_queue.proofs.Masks.{unseen_in_step}
use Rattle.issue_queue.proofs.places.Places.release.Goals as goal

pub returns-clause-step : goal.returns-clause-step
returns-clause-step c = unseen_in_step released (λ e. refl) (λ e. refl) (λ e. refl) (λ e. refl) (λ p. true) c.args.self.now _ refl refl refl c.release.ensures.waiters refl c.release.ensures.slots (λ p free. inl refl) c.requires.step
