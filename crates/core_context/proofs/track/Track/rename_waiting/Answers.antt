use Rattle.std.proofs.Common.{ap, refl}
use Rattle.flight.specs.Flights.{Flight}
use Rattle.core_context.proofs.Ends.{end_set}
use Rattle.core_context.proofs.track.Track.rename_waiting.Goals as goal

pub invariant_of-self : goal.invariant_of-self
invariant_of-self g c =
    (c.self.invariant.0, end_set c.self.inside.pc _ _ c.self.inside.flight.entries _ c.self.inside.flight.renamed _ c.self.invariant.1 (ap (λ (f : Flight). f.entries) (c.rename_waiting.ensures 0)) refl refl)
