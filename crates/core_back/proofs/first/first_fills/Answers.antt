use Rattle.std.proofs.Common.{◌≡◌, refl, ap, ◌∙◌, arith}
use Rattle.std.specs.Prelude.{get_or}
use Rattle.std.proofs.lemmas.List.{length-set, get_or_read}
use Rattle.fetch_policy.proofs.Laws.{one_more}
use Rattle.core_context.specs.FrontLists.{front_fill}
use Rattle.core_context.specs.Track.{Track}
use Rattle.core_back.specs.Machine.{no_track}
use Rattle.core_back.proofs.FirstMachine.{fill_empty}
use Rattle.core_back.proofs.first.first_fills.Given.{Over}
use Rattle.core_back.proofs.first.first_fills.Goals as goal
use Rattle.core_back.proofs.first.first_fills.Goals.{After-index-tracks-place}

pub loop-place-init : goal.loop-place-init
loop-place-init g c = record { each = λ d lt. absurd (omega (arith, lt)); eight = refl }

-- the track at the place
here : (g : Over) (c : After-index-tracks-place g) → c.index-tracks-place.result ≡ get_or c.args.tracks.now c.loop-place.place no_track
here g c = get_or_read c.args.tracks.now c.loop-place.place c.index-tracks-place.result (omega (arith, c.loop-place-test.true, c.requires.eight)) c.index-tracks-place.is no_track

pub front_fill-requires : goal.front_fill-requires
front_fill-requires g c =
    let at = here g (goal.at.front_fill-requires g c).After-index-tracks-place in
    let is = ap (λ (t : Track). t.capacity) at in
    omega (arith, is, c.requires.few c.loop-place.place c.loop-place-test.true)

pub loop-place-preserved : goal.loop-place-preserved
loop-place-preserved g c =
    let at = here g (goal.at.loop-place-preserved g c).After-index-tracks-place in
    let i = c.loop-place.invariant in
    let empty = ap (λ (t : Track). t.context.flight) at ∙ c.requires.empty c.loop-place.place c.loop-place-test.true in
    record {
      each = one_more (λ d n. n ≡ front_fill (get_or c.args.tracks.now d no_track).context) c.loop-place.fills c.loop-place.place c.front_fill.result 0 i.each (omega (arith, i.eight, c.loop-place-test.true))
          (fill_empty c.index-tracks-place.result c.front_fill.result empty c.front_fill.ensures ∙ ap (λ (t : Track). front_fill t.context) at);
      eight = length-set c.loop-place.fills c.loop-place.place c.front_fill.result ∙ i.eight;
    }

pub returns : goal.returns
returns g c = record { eight = c.loop-place.invariant.eight; each = λ d lt. c.loop-place.invariant.each d (omega (arith, lt, c.loop-place-test.false)) }
