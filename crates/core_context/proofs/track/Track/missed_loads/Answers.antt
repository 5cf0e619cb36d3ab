use Rattle.std.proofs.Common.{take, ap, ◌∙◌}
use Rattle.std.specs.Prelude.{count_by}
use Rattle.core_view.specs.Flight.{is_missed_load}
use Rattle.core_context.specs.Track.{Track}
use Rattle.core_context.proofs.track.Track.missed_loads.Goals as goal

pub returns-clause-value : goal.returns-clause-value
returns-clause-value g c = c.missed_loads.ensures ∙ ap (λ (t : Track). count_by is_missed_load (take t.renamed t.context.flight)) c.self.view_is
