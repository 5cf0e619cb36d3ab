use Rattle.std.proofs.Common.{rules, arith, refl, sym, ap, subst, ◌≡◌, [], List, get_or, slice_index, ◌∙◌, All, true}
use Rattle.std.specs.Prelude.{AllPairs}
use Rattle.std.specs.Arc.{arc_value}
use Rattle.join_law.specs.Eight.{place_of}
use Rattle.core_view.specs.declared.note.EntryId.{EntryId}
use Rattle.data_flow.specs.Flow.{waits_in}
use Rattle.core_context.specs.Issuable.{IsMarked}
use Rattle.core_context.specs.Track.{Track}
use Rattle.core_back.specs.Fills.{AreFills}
use Rattle.core_back.specs.Machine.{no_track}
use Rattle.core_back.specs.Shown.{AreApart, IsSuppliedIn, waiting_in, waiting_flow}
use Rattle.core_back.proofs.FirstMachine.{first_core, mark_of_first, origin_of_first, first_context_at, count_of_tracks}
use Rattle.core_back.proofs.machine.Machine.new.Goals as goal

pub invariant_of-result : goal.invariant_of-result
invariant_of-result g c =
    let empty : c.new.result ≡ [] = c.new.ensures in
    let origin : arc_value c.in_ok-origins.origins.c0 ≡ c.args.marks.now.c0.origin = c.in_ok-origins.ensures 0 (omega arith) in
    record {
      cores = λ d lt. first_core c.args.profile.now (arc_value c.in_ok-origins.origins.c0) d (slice_index c.args.targets.now d) (place_of c.args.marks.now d) (waiting_flow c.new.result c.in_ok-flow.flow) [] (get_or c.in_ok-tracks.tracks.items d no_track)
          (mark_of_first (arc_value c.in_ok-origins.origins.c0) c.args.marks.now d c.requires.aligned origin lt) (c.requires.targets d lt) (subst (λ (ns : List EntryId). waiting_in ns c.in_ok-flow.flow.waiters ≡ []) (sym empty) c.in_ok-flow.ensures.waiters) refl (c.in_ok-flow.ensures.set d lt) (c.in_ok-tracks.ensures.each d lt);
      origins = λ d lt. origin_of_first (arc_value c.in_ok-origins.origins.c0) (arc_value (place_of c.in_ok-origins.origins d)) c.args.marks.now d c.requires.aligned origin lt (c.in_ok-origins.ensures d lt);
      tracks = c.in_ok-tracks.ensures.count;
      lanes = c.in_ok-flow.ensures.count;
      contexts = rw c.in_ok-flow.ensures.waiters (λ i d lt. absurd (omega arith));
      let_go = λ none. rw c.in_ok-flow.ensures.waiters (λ i d lt. absurd (omega arith));
      apart = subst (λ (ns : List EntryId). AllPairs AreApart ns) (sym empty) (λ i j d lt below. absurd (omega arith));
      supplied = subst (λ (ns : List EntryId). All (IsSuppliedIn c.in_ok-flow.flow) ns) (sym empty) (search rules);
      held = subst (λ (ns : List EntryId). All (λ n. IsMarked c.in_ok-flow.flow n.context n.stamp true) ns) (sym empty) (λ i d lt. absurd (omega arith));
      waits = subst (λ (ns : List EntryId). All (λ n. waits_in (waiting_flow ns c.in_ok-flow.flow) n.context n.stamp ≡ true) ns) (sym empty) (λ i d lt. absurd (omega arith));
      stamps = omega arith;
      room = record {
        registers = c.in_ok-flow.ensures.extra;
        waiters = c.in_ok-flow.ensures.places;
        loads = λ d lt. ap (λ (t : Track). t.load_places) (c.in_ok-tracks.ensures.each d lt).first;
        stores = λ d lt. ap (λ (t : Track). t.store_places) (c.in_ok-tracks.ensures.each d lt).first;
      };
      fills = subst (λ (ts : List Track). AreFills c.first_fills-fills.result ts) c.as_slice.ensures.value c.first_fills-fills.ensures;
    }

pub returns : goal.returns
returns g c = record {
  origin = c.in_ok-origins.ensures 0 (omega arith);
  profile_is = refl;
  cycle = refl;
  stamp = refl;
  names = search rules;
  fetch_room = refl;
  count = count_of_tracks c.in_ok-tracks.tracks.items ∙ c.in_ok-tracks.ensures.count;
  contexts = λ d lt. first_context_at c.args.profile.now (place_of c.args.marks.now d) (slice_index c.args.targets.now d) c.in_ok-tracks.tracks.items d (c.in_ok-tracks.ensures.each d lt);
}

pub first_fills-fills-requires-clause-few : goal.first_fills-fills-requires-clause-few
first_fills-fills-requires-clause-few g c d lt =
    let is = ap (λ (ts : List Track). (get_or ts d no_track).capacity) c.as_slice.ensures.value ∙ ap (λ (t : Track). t.capacity) (c.in_ok-tracks.ensures.each d lt).first in
    omega (arith, is, c.args.profile.now.reorder_buffer_in_range.1)

pub first_fills-fills-requires-clause-empty : goal.first_fills-fills-requires-clause-empty
first_fills-fills-requires-clause-empty g c d lt = ap (λ (ts : List Track). (get_or ts d no_track).context.flight) c.as_slice.ensures.value ∙ ap (λ (t : Track). t.context.flight) (c.in_ok-tracks.ensures.each d lt).first
