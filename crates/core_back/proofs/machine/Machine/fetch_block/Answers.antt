use Rattle.std.proofs.Common.{◌≡◌, ◌+◌, ◌-◌, length, refl, sym, ap, ◌∙◌, arith}
use Rattle.std.proofs.lemmas.List.{length-map}
use Rattle.std.specs.Arc.{arc_value}
use Rattle.origin_set.specs.Start.{start}
use Rattle.core_view.specs.View.{Context}
use Rattle.lawful_cycle.specs.Fetch.{front_room, is_eligible}
use Rattle.core_context.specs.Track.{Track}
use Rattle.core_context.proofs.Laws.{fetched_count, fill_is}
use Rattle.core_back.specs.Machine.{Machine}
use Rattle.core_back.proofs.BlockTurns.{queried_in_turn, ids_length, pick_turn, takes_turn}
use Rattle.core_back.proofs.InFlight.{in_flight_turn}
use Rattle.core_back.proofs.Machines.{At, at_context, fills_set, idle_core, machine_fetched, shown_fetched}
use Rattle.core_back.proofs.machine.Machine.fetch_block.Given.{Over}
use Rattle.core_back.proofs.machine.Machine.fetch_block.Goals as goal
use Rattle.core_back.proofs.machine.Machine.fetch_block.Goals.{After-index_mut-track}

-- the track and the lane of the context
here : (g : Over) (c : After-index_mut-track g) → At c.self.inside c.args.self.now c.args.context c.index_mut-track.result.now
here g c = at_context c.self.inside c.args.self.now c.args.context c.index.result c.index_mut-track.result.now c.self.view_is c.self.invariant (omega (arith, c.index.ensures)) c.index.ensures.value c.index_mut-track.ensures.value

pub fetch_block-number-requires-clause-before : goal.fetch_block-number-requires-clause-before
fetch_block-number-requires-clause-before g c =
    let h = here g (goal.at.fetch_block-number-requires-clause-before g c).After-index_mut-track in
    record {
      start = start (arc_value c.self.inside.origins.c0) c.args.context;
      reorder = c.self.inside.profile.reorder_buffer;
      flow = c.self.inside.flow;
      core = idle_core c.self.inside c.args.self.now c.args.context c.index_mut-track.result.now c.self.view_is c.requires.idle h;
    }

pub fetch_block-number-requires-clause-eligible : goal.fetch_block-number-requires-clause-eligible
fetch_block-number-requires-clause-eligible g c =
    let h = here g (goal.at.fetch_block-number-requires-clause-eligible g c).After-index_mut-track in
    ap (λ (x : Context). is_eligible x) h.context ∙ c.requires.eligible

pub fetch_block-number-requires-clause-front : goal.fetch_block-number-requires-clause-front
fetch_block-number-requires-clause-front g c =
    let h = here g (goal.at.fetch_block-number-requires-clause-front g c).After-index_mut-track in
    let t = c.index_mut-track.result.now in
    let front = c.front_room.ensures ∙ ap (λ n. 16 - n) (sym (fetched_count t.renamed t.context.flight h.core.are_renamed h.core.are_fetched)) in
    omega (arith, front, c.most_in_turn-most.ensures)

pub invariant_of-self : goal.invariant_of-self
invariant_of-self g c =
    let h = here g (goal.at.invariant_of-self g c).After-index_mut-track in
    let core = idle_core c.self.inside c.args.self.now c.args.context c.index_mut-track.result.now c.self.view_is c.requires.idle h in
    let e = c.fetch_block-number.ensures.block in
    machine_fetched c.self.inside _ c.args.self.now c.args.context c.index.result c.fetch_block-number.result c.fetch_block-number.new.track c.self.view_is c.self.invariant c.requires.idle (omega (arith, c.index.ensures))
    (e.kept (start (arc_value c.self.inside.origins.c0) c.args.context) c.self.inside.profile.reorder_buffer c.self.inside.flow core)
    (e.loads ∙ ap (λ (t : Track). t.load_places) h.track) (e.stores ∙ ap (λ (t : Track). t.store_places) h.track) c.index.ensures.value refl refl refl refl refl refl
    (omega (arith, c.fetch_block-number.ensures.most, c.most_in_turn-most.ensures)) refl
    (fills_set c.self.inside.fills c.self.inside.tracks.items c.args.context c.index-2.result c.front_fill.result c.fetch_block-number.new.track c.self.invariant.fills (omega (arith, c.index.ensures)) c.self.invariant.tracks c.index-2.ensures.value
    (c.front_fill.ensures ∙ sym (fill_is (start (arc_value c.self.inside.origins.c0) c.args.context) (c.self.inside.stamp + c.fetch_block-number.result) c.self.inside.profile.reorder_buffer c.self.inside.flow c.args.context c.fetch_block-number.new.track
    (e.kept (start (arc_value c.self.inside.origins.c0) c.args.context) c.self.inside.profile.reorder_buffer c.self.inside.flow core))))

pub front_fill-requires : goal.front_fill-requires
front_fill-requires g c =
    let h = here g (goal.at.front_fill-requires g c).After-index_mut-track in
    let core = idle_core c.self.inside c.args.self.now c.args.context c.index_mut-track.result.now c.self.view_is c.requires.idle h in
    let after = c.fetch_block-number.ensures.block.kept (start (arc_value c.self.inside.origins.c0) c.args.context) c.self.inside.profile.reorder_buffer c.self.inside.flow core in
    let most = c.self.inside.profile.reorder_buffer_in_range.1 in omega (arith, after.capacity, most)

pub returns-clause-turn : goal.returns-clause-turn
returns-clause-turn g c =
    let h = here g (goal.at.returns-clause-turn g c).After-index_mut-track in
    let t = c.index_mut-track.result.now in
    let front : c.front_room.result ≡ front_room t.context = c.front_room.ensures ∙ ap (λ n. 16 - n) (sym (fetched_count t.renamed t.context.flight h.core.are_renamed h.core.are_fetched)) in
    let room = ap (λ (v : Machine). v.fetch_room) c.self.view_is in
    let contexts = ap (λ (v : Machine). length v.view.contexts) c.self.view_is in
    pick_turn (g.G.Guess.may_answer c.args.guess.now) c.args.self.now _ c.args.context c.args.num2 c.fetch_block-number.result c.self.inside.cycle c.self.inside.stamp t.context c.fetch_block-number.new.track.context (g.L.Listing.items c.args.fetched.now) (g.L.Listing.items c.fetch_block-number.new.fetched)
    (shown_fetched c.self.inside c.args.self.now c.args.context c.index.result c.fetch_block-number.result c.fetch_block-number.new.track (c.self.inside.fetch_room - c.fetch_block-number.result) c.self.view_is c.index.ensures.value)
    (omega (arith, h.in_tracks, contexts, length-map c.self.inside.tracks.items (λ (t : Track). t.context)))
    h.context (ap (λ (v : Machine). v.view.cycle) c.self.view_is) (ap (λ (v : Machine). v.view.stamp) c.self.view_is) c.fetch_block-number.ensures.block.block
    (takes_turn t.context c.fetch_block-number.new.track.context c.args.num2 c.self.inside.fetch_room c.front_room.result (length (g.L.Listing.items c.args.fetched.now)) c.most_in_turn-most.result c.fetch_block-number.result front
    (omega (arith, room, c.requires.room)) (omega (arith, c.most_in_turn-most.ensures)) c.fetch_block-number.ensures.most c.fetch_block-number.ensures.fewer)
    c.fetch_block-number.ensures.listed

pub returns-clause-room : goal.returns-clause-room
returns-clause-room g c =
    let room = ap (λ (v : Machine). v.fetch_room) c.self.view_is in
    let long = ids_length (g.L.Listing.items c.args.fetched.now) (g.L.Listing.items c.fetch_block-number.new.fetched) c.self.inside.stamp c.args.context c.fetch_block-number.result c.fetch_block-number.ensures.listed in
    omega (arith, room, long, c.requires.room, c.fetch_block-number.ensures.most, c.most_in_turn-most.ensures)

pub returns-clause-flights : goal.returns-clause-flights
returns-clause-flights g c =
    let h = here g (goal.at.returns-clause-flights g c).After-index_mut-track in
    let contexts = ap (λ (v : Machine). length v.view.contexts) c.self.view_is in
    in_flight_turn c.args.self.now _ c.args.context c.args.num2 (g.L.Listing.items c.args.fetched.now) (g.L.Listing.items c.fetch_block-number.new.fetched) (returns-clause-turn g c)
    (omega (arith, h.in_tracks, contexts, length-map c.self.inside.tracks.items (λ (t : Track). t.context)))

pub returns-clause-queried : goal.returns-clause-queried
returns-clause-queried g c =
    let h = here g (goal.at.returns-clause-queried g c).After-index_mut-track in
    let t = c.index_mut-track.result.now in
    let contexts = ap (λ (v : Machine). length v.view.contexts) c.self.view_is in
    queried_in_turn g.G.Guess.answer g.G.Guess.after_guess c.args.context c.args.self.now _ c.fetch_block-number.result (c.self.inside.fetch_room - c.fetch_block-number.result) t.context c.fetch_block-number.new.track.context c.args.guess.now c.fetch_block-number.new.guess
    (shown_fetched c.self.inside c.args.self.now c.args.context c.index.result c.fetch_block-number.result c.fetch_block-number.new.track (c.self.inside.fetch_room - c.fetch_block-number.result) c.self.view_is c.index.ensures.value)
    (omega (arith, h.in_tracks, contexts, length-map c.self.inside.tracks.items (λ (t : Track). t.context)))
    h.context c.fetch_block-number.ensures.queried
