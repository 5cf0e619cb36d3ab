use Rattle.std.proofs.Common.{ap, ◌∙◌}
use Rattle.core_context.specs.Track.{Track}
use Rattle.core_context.proofs.track.Track.renamed_count.Goals as goal

pub returns-clause-value : goal.returns-clause-value
returns-clause-value g c = c.renamed_count.ensures.value ∙ ap (λ (t : Track). t.renamed) c.self.view_is
