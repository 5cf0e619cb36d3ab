use Rattle.std.proofs.Common.{List, ◌≡◌, ◌<◌, ap, sym, refl, subst, ◌∙◌, length, get_or}
use Rattle.std.specs.Prelude.{set}
use Rattle.std.proofs.lemmas.Option.{slice_get-get_or}
use Rattle.core_view.specs.Stages.{execution_of}
use Rattle.flight.specs.Flights.{Flight}
use Rattle.core_view.specs.declared.entry.Stage.TheVariants.{Issued}
use Rattle.core_view.specs.declared.entry.Entry.{Entry}
use Rattle.core_view.specs.Outcomes.{image_of}
use Rattle.core_view.specs.Flight.{seen_of, IsSound}
use Rattle.core_view.specs.Events.{completed_entry}
use Rattle.core_view.specs.View.{no_entry, entry_at}
use Rattle.core_context.specs.Track.{Track, cut_stamp}
use Rattle.core_context.proofs.Tracks.{cut_store}
use Rattle.core_context.proofs.Ends.{end_finished}
use Rattle.core_context.proofs.track.Track.finish_store.Goals as goal

pub invariant_of-self : goal.invariant_of-self
invariant_of-self g c =
    let es = c.self.inside.flight.entries in
    let i = c.args.place in
    let e = get_or es i no_entry in
    let within : i < length es = rw (← c.self.view_is) at c.requires.place in
    let written : c.resolve_store-conflict.new.flight.entries ≡ set es i (completed_entry e (execution_of e.stage)) = ap (λ (f : Flight). f.entries) c.resolve_store-conflict.ensures.completed in
    (c.self.invariant.0, end_finished c.self.inside.pc _ _ _ es c.resolve_store-conflict.new.flight.entries i (completed_entry e (execution_of e.stage)) c.self.invariant.1 within written refl c.fetch_pc_after-self-inside.ensures.last c.fetch_pc_after-self-inside.ensures.before)

pub returns-clause-cut : goal.returns-clause-cut
returns-clause-cut g c =
    let es = c.self.inside.flight.entries in
    let i = c.args.place in
    let e = get_or es i no_entry in
    let here = ap (λ (t : Track). t.context.flight) c.self.view_is in
    let within : i < length es = rw (← c.self.view_is) at c.requires.place in
    let issued : e.stage ≡ Issued (execution_of e.stage) = rw (← c.self.view_is) at c.requires.issued in
    let store = rw (← c.self.view_is) at c.requires.store in
    let sound = subst (λ (fs : List Entry). IsSound (image_of c.args.self.now.context.state) (seen_of c.args.self.now.context.state) c.args.self.now.context.state.pc fs) (sym here) c.requires.sound in
    c.resolve_store-conflict.ensures.conflict
    ∙ cut_store es i e (execution_of e.stage) (slice_get-get_or es i no_entry within) (image_of c.args.self.now.context.state) (seen_of c.args.self.now.context.state) c.args.self.now.context.state.pc issued sound c.len-len.ensures.growing store
    ∙ ap (λ (t : Track). cut_stamp t.context i (execution_of (entry_at t.context i).stage)) c.self.view_is
