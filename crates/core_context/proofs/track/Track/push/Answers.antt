use Rattle.std.proofs.Common.{◌≡◌, true, ap, ◌∙◌}
use Rattle.std.specs.Prelude.{not, ◌&&◌}
use Rattle.flight.specs.Flights.{Flight}
use Rattle.core_view.specs.Operations.{stops_at_fetch}
use Rattle.core_view.specs.Flight.{is_open}
use Rattle.core_context.proofs.Ends.{end_push}
use Rattle.core_context.proofs.track.Track.push.Goals as goal

pub invariant_of-self : goal.invariant_of-self
invariant_of-self g c =
    let open_ : is_open c.self.inside.flight.entries ≡ true = rw (← c.self.view_is) at c.requires.goes_on in
    let goes_on : (c.self.inside.goes_on && not c.args.stops) ≡ not (stops_at_fetch c.args.entry.operation) = ap (λ b. b && not c.args.stops) (c.self.invariant.1.open_is ∙ open_) ∙ ap not c.requires.stops in
    let items = ap (λ (f : Flight). f.entries) c.push.ensures in (
      c.self.invariant.0,
      end_push c.self.inside.pc _ _ c.self.inside.flight.entries _ c.args.entry items c.requires.followed goes_on,
    )
