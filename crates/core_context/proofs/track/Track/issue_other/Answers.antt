use Rattle.std.proofs.Common.{◌≡◌, ap, refl}
use Rattle.std.specs.Prelude.{set}
use Rattle.flight.specs.Flights.{Flight, entry_in}
use Rattle.core_view.specs.declared.entry.Stage.TheVariants.{Issued}
use Rattle.core_view.specs.Events.{with_stage}
use Rattle.core_context.proofs.Tracks.{issued_is}
use Rattle.core_context.proofs.Ends.{end_set}
use Rattle.core_context.proofs.track.Track.issue_other.Goals as goal

pub invariant_of-self : goal.invariant_of-self
invariant_of-self g c =
    let items : c.issue_other.new.self.entries ≡ set c.self.inside.flight.entries c.args.place (with_stage (entry_in c.self.inside.flight.entries c.args.place) (Issued c.args.execution)) = ap (λ (f : Flight). f.entries) c.issue_other.ensures in (
      c.self.invariant.0,
      end_set c.self.inside.pc _ _ c.self.inside.flight.entries _ c.args.place _ c.self.invariant.1 items refl refl,
    )

pub returns : goal.returns
returns g c = issued_is _ c.args.self.now c.issue_other.new.self c.args.place c.args.execution c.self.view_is c.issue_other.ensures
