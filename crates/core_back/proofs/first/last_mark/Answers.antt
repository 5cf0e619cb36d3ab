use Rattle.std.proofs.Common.{◌≡◌, ℕ, ◌+◌, ◌%◌, Some, get_or, sym, ap, ◌∙◌, arith}
use Rattle.std.specs.Arc.{arc_value}
use Rattle.std.specs.List.{slice_index}
use Rattle.hart_step.specs.State.{State}
use Rattle.hart_step.specs.Next.{after}
use Rattle.origin_set.specs.Start.{start}
use Rattle.checkpoint.specs.MarkValue.{MarkValue}
use Rattle.core_context.specs.Track.{Track}
use Rattle.core_back.specs.Machine.{no_track}
use Rattle.core_back.proofs.FinalMarks.{last_of}
use Rattle.core_back.proofs.MachineIssues.{numbered}
use Rattle.core_back.proofs.first.last_mark.Given.{Over}
use Rattle.core_back.proofs.first.last_mark.Goals as goal
use Rattle.core_back.proofs.first.last_mark.Goals.{After-unwrap-track}

-- the track that was taken is the last
last : (g : Over) (c : After-unwrap-track g) → c.unwrap-track.result ≡ get_or c.args.tracks.now.items c.args.number no_track
last g c =
    let items = c.args.tracks.now.items in
    let long : c.args.tracks.now.len ≡ c.args.number + 1 = omega (arith, c.args.tracks.now.ok.0, c.requires.count) in
    last_of items c.args.tracks.now.len c.args.number c.pop.result c.unwrap-track.result (c.pop.ensures.value no_track (omega (arith, long))) c.unwrap-track.ensures long

pub into_hart-requires-clause-zero : goal.into_hart-requires-clause-zero
into_hart-requires-clause-zero g c =
    let track = last g (goal.at.into_hart-requires-clause-zero g c).After-unwrap-track in
    ap (λ (t : Track). slice_index t.context.state.registers 0) track ∙ c.requires.reached.zero_register

pub into_hart-requires-clause-aligned : goal.into_hart-requires-clause-aligned
into_hart-requires-clause-aligned g c =
    let track = last g (goal.at.into_hart-requires-clause-aligned g c).After-unwrap-track in
    ap (λ (t : Track). t.context.state.pc % 4) track ∙ c.requires.reached.aligned

pub from_core-requires-clause-reached : goal.from_core-requires-clause-reached
from_core-requires-clause-reached g c =
    let track = last g (goal.at.from_core-requires-clause-reached g c).After-unwrap-track in
    let number = numbered c.new.result c.unwrap-context.result c.args.number c.new.ensures.value c.unwrap-context.ensures in
    ap (λ k. after c.count-count.result (start (arc_value c.args.origin) k)) number
    ∙ ap (λ n. after n (start (arc_value c.args.origin) c.args.number)) (c.count-count.ensures ∙ ap (λ (t : Track). t.context.count) track)
    ∙ c.requires.reached.reached ∙ ap (λ (t : Track). Some t.context.state) (sym track) ∙ ap (λ (s : State). Some s) (sym c.into_hart.ensures)

pub returns-clause-mark : goal.returns-clause-mark
returns-clause-mark g c =
    let track = last g (goal.at.returns-clause-mark g c).After-unwrap-track in
    let number = numbered c.new.result c.unwrap-context.result c.args.number c.new.ensures.value c.unwrap-context.ensures in
    let mark : ℕ → ℕ → MarkValue = λ k n. record { origin = arc_value c.args.origin; context = k; count = n } in
    c.from_core.ensures ∙ ap (λ k. mark k c.count-count.result) number ∙ ap (mark c.args.number) (c.count-count.ensures ∙ ap (λ (t : Track). t.context.count) track)
