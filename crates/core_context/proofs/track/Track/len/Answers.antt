use Rattle.std.proofs.Common.{◌≤◌, length, ap, subst, ◌∙◌}
use Rattle.core_context.specs.Track.{Track}
use Rattle.core_context.proofs.track.Track.len.Goals as goal

pub returns-clause-value : goal.returns-clause-value
returns-clause-value g c = c.len.ensures.value ∙ ap (λ (t : Track). length t.context.flight) c.self.view_is

pub returns-clause-bound : goal.returns-clause-bound
returns-clause-bound g c = subst (λ (t : Track). c.len.result ≤ t.capacity) c.self.view_is c.len.ensures.bound
