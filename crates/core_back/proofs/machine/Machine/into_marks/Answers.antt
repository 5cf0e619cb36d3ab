use Rattle.std.proofs.Common.{ap, subst, get_or, []}
use Rattle.std.specs.Arc.{arc_value}
use Rattle.origin_set.specs.OriginValue.{OriginValue}
use Rattle.origin_set.specs.Start.{start}
use Rattle.join_law.specs.Eight.{place_of}
use Rattle.core_back.specs.Machine.{Machine, context_at, no_track}
use Rattle.core_back.specs.Shown.{machine_of, waiting_flow}
use Rattle.core_back.specs.First.{AreMarksAt}
use Rattle.core_back.proofs.FirstMachine.{context_of_track}
use Rattle.core_back.proofs.FinalMarks.{reached_core, mark_is_at}
use Rattle.core_back.proofs.machine.Machine.into_marks.Goals as goal

pub marks_of-requires-clause-reached : goal.marks_of-requires-clause-reached
marks_of-requires-clause-reached g c d lt =
    let m = c.self.inside in
    reached_core (start (arc_value m.origins.c0) d) (start (arc_value (place_of m.origins d)) d) m.stamp m.profile.reorder_buffer (waiting_flow m.selected m.flow) [] d (get_or m.tracks.items d no_track)
    (ap (λ (o : OriginValue). start o d) (c.self.invariant.origins d lt)) (c.self.invariant.cores d lt)

pub returns : goal.returns
returns g c =
    let m = c.self.inside in
    let at_inside : AreMarksAt (machine_of m) c.marks_of.result = λ d lt. mark_is_at (arc_value m.origins.c0) (arc_value (place_of m.origins d)) m.stamp m.profile.reorder_buffer (waiting_flow m.selected m.flow) [] d (get_or m.tracks.items d no_track)
    (context_at (machine_of m) d) (place_of c.marks_of.result d) (c.self.invariant.cores d lt) (c.self.invariant.origins d lt) (context_of_track m.tracks.items d) (c.marks_of.ensures d lt) in
    subst (λ (now : Machine). AreMarksAt now c.marks_of.result) c.self.view_is at_inside
