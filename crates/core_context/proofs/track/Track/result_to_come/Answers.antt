use Rattle.std.proofs.Common.{◌≡◌, ◌<◌, length, slice_get, Some, ap, sym, subst, ◌∙◌}
use Rattle.std.specs.Prelude.{option_copied}
use Rattle.std.proofs.lemmas.Option.{get_or_from_slice_get}
use Rattle.core_view.specs.declared.entry.Entry.{Entry}
use Rattle.core_view.specs.Flight.{result_in}
use Rattle.core_view.specs.Stages.{execution_of}
use Rattle.core_view.specs.View.{no_entry, entry_at}
use Rattle.core_context.specs.Track.{Track}
use Rattle.core_context.proofs.Performed.{step_result}
use Rattle.core_context.proofs.Tracks.{not_there}
use Rattle.core_context.proofs.track.Track.result_to_come.Goals as goal

pub assert_unchecked-requires : goal.assert_unchecked-requires
assert_unchecked-requires g c =
    absurd (not_there c.self.inside.flight.entries c.args.place (sym c.get.ensures ∙ ap option_copied c.in_default.is) (subst (λ (t : Track). c.args.place < length t.context.flight) (sym c.self.view_is) c.requires.place))

pub unreachable-requires : goal.unreachable-requires
unreachable-requires g c =
    absurd (not_there c.self.inside.flight.entries c.args.place (sym c.get.ensures ∙ ap option_copied c.in_default.is) (subst (λ (t : Track). c.args.place < length t.context.flight) (sym c.self.view_is) c.requires.place))

pub returns : goal.returns
returns g c =
    let read : slice_get c.self.inside.flight.entries c.args.place ≡ Some c.in-Some.entry.now = sym c.get.ensures ∙ ap option_copied c.in-Some.is in
    let here = get_or_from_slice_get c.self.inside.flight.entries c.args.place c.in-Some.entry.now no_entry read in
    step_result (execution_of c.in-Some.entry.now.stage).outcome c.in_ok-step.step (sym c.step.ensures ∙ c.in_ok-step.was)
    ∙ ap (λ (e : Entry). result_in (execution_of e.stage).outcome) (sym here)
    ∙ ap (λ (t : Track). result_in (execution_of (entry_at t.context c.args.place).stage).outcome) c.self.view_is
