use Rattle.std.proofs.Common.{◌≡◌, ◌<◌, List, Some, slice_get, get_or, length, ap, sym, refl, subst, ◌∙◌}
use Rattle.std.proofs.lemmas.Option.{slice_get-get_or}
use Rattle.core_view.specs.Stages.{execution_of}
use Rattle.flight.specs.Flights.{Flight}
use Rattle.core_view.specs.declared.entry.Entry.{Entry}
use Rattle.core_view.specs.declared.entry.Stage.TheVariants.{Issued}
use Rattle.core_view.specs.Outcomes.{image_of}
use Rattle.core_view.specs.Flight.{seen_of, IsSound}
use Rattle.core_view.specs.Events.{completed_entry}
use Rattle.core_view.specs.View.{no_entry, entry_at}
use Rattle.core_context.specs.Track.{Track, cut_stamp}
use Rattle.core_context.proofs.Tracks.{followed_right, plain_kept}
use Rattle.core_context.proofs.Ends.{end_set, followed_still}
use Rattle.core_context.proofs.track.Track.finish_plain.Goals as goal

-- ---- it wasn't plain

pub invariant_of-self : goal.invariant_of-self
invariant_of-self g c = rw (c.finish_plain.ensures.none c.in_err-finished.was) c.self.invariant

-- ---- it was

pub invariant_of-self-2 : goal.invariant_of-self-2
invariant_of-self-2 g c =
    let es = c.self.inside.flight.entries in
    let i = c.args.place in
    let e = get_or es i no_entry in
    let x = execution_of e.stage in
    let end = end_set c.self.inside.pc _ _ es _ i (completed_entry e x) c.self.invariant.1 (ap (λ (f : Flight). f.entries) c.in_ok-finished.ensures.done) (followed_still e.followed x.outcome c.in_ok-finished.ensures.plain.followed) refl in
    (c.self.invariant.0, end)

pub returns-clause-kept : goal.returns-clause-kept
returns-clause-kept g c =
    let es = c.self.inside.flight.entries in
    let i = c.args.place in
    let e = get_or es i no_entry in
    let x = execution_of e.stage in
    let within : i < length es = rw (← c.self.view_is) at c.requires.place in
    let issued : e.stage ≡ Issued x = rw (← c.self.view_is) at c.requires.issued in
    let read : slice_get es i ≡ Some e = slice_get-get_or es i no_entry within in
    let sound = subst (λ (fs : List Entry). IsSound (image_of c.args.self.now.context.state) (seen_of c.args.self.now.context.state) c.args.self.now.context.state.pc fs) (sym (ap (λ (t : Track). t.context.flight) c.self.view_is)) c.requires.sound in
    let right = followed_right e x.outcome c.in_ok-finished.ensures.plain.followed in
    let state = c.args.self.now.context.state in
    sym (plain_kept es i e x read (image_of state) (seen_of state) state.pc issued sound c.len-len.ensures.growing right c.in_ok-finished.ensures.conflict ∙ ap (λ (t : Track). cut_stamp t.context i (execution_of (entry_at t.context i).stage)) c.self.view_is)

pub returns-clause-more : goal.returns-clause-more
returns-clause-more g c = c.in_ok-finished.ensures.more
