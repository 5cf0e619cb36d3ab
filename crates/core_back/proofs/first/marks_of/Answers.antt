use Rattle.std.proofs.Common.{arith, get_or}
use Rattle.std.specs.Arc.{arc_value}
use Rattle.join_law.specs.Eight.{place_of}
use Rattle.core_back.specs.Machine.{no_track}
use Rattle.core_back.proofs.FinalMarks.{left_all, left_less, reached_left, mark_left, mark_at, marks_at, AreLeft}
use Rattle.core_back.proofs.first.marks_of.Goals as goal

pub last_mark-c7-requires-clause-reached : goal.last_mark-c7-requires-clause-reached
last_mark-c7-requires-clause-reached g c = c.requires.reached 7 (omega arith)

pub last_mark-c6-requires-clause-count : goal.last_mark-c6-requires-clause-count
last_mark-c6-requires-clause-count g c = (left_less 7 (left_all c.args.tracks.items 8 c.requires.count) c.last_mark-c7.ensures.rest).count

pub last_mark-c6-requires-clause-reached : goal.last_mark-c6-requires-clause-reached
last_mark-c6-requires-clause-reached g c = reached_left 6 (left_less 7 (left_all c.args.tracks.items 8 c.requires.count) c.last_mark-c7.ensures.rest) (c.requires.reached 6 (omega arith))

pub last_mark-c5-requires-clause-count : goal.last_mark-c5-requires-clause-count
last_mark-c5-requires-clause-count g c = (left_less 6 (left_less 7 (left_all c.args.tracks.items 8 c.requires.count) c.last_mark-c7.ensures.rest) c.last_mark-c6.ensures.rest).count

pub last_mark-c5-requires-clause-reached : goal.last_mark-c5-requires-clause-reached
last_mark-c5-requires-clause-reached g c = reached_left 5 (left_less 6 (left_less 7 (left_all c.args.tracks.items 8 c.requires.count) c.last_mark-c7.ensures.rest) c.last_mark-c6.ensures.rest) (c.requires.reached 5 (omega arith))

pub last_mark-c4-requires-clause-count : goal.last_mark-c4-requires-clause-count
last_mark-c4-requires-clause-count g c = (left_less 5 (left_less 6 (left_less 7 (left_all c.args.tracks.items 8 c.requires.count) c.last_mark-c7.ensures.rest) c.last_mark-c6.ensures.rest) c.last_mark-c5.ensures.rest).count

pub last_mark-c4-requires-clause-reached : goal.last_mark-c4-requires-clause-reached
last_mark-c4-requires-clause-reached g c = reached_left 4 (left_less 5 (left_less 6 (left_less 7 (left_all c.args.tracks.items 8 c.requires.count) c.last_mark-c7.ensures.rest) c.last_mark-c6.ensures.rest) c.last_mark-c5.ensures.rest) (c.requires.reached 4 (omega arith))

pub last_mark-c3-requires-clause-count : goal.last_mark-c3-requires-clause-count
last_mark-c3-requires-clause-count g c = (left_less 4 (left_less 5 (left_less 6 (left_less 7 (left_all c.args.tracks.items 8 c.requires.count) c.last_mark-c7.ensures.rest) c.last_mark-c6.ensures.rest) c.last_mark-c5.ensures.rest) c.last_mark-c4.ensures.rest).count

pub last_mark-c3-requires-clause-reached : goal.last_mark-c3-requires-clause-reached
last_mark-c3-requires-clause-reached g c = reached_left 3 (left_less 4 (left_less 5 (left_less 6 (left_less 7 (left_all c.args.tracks.items 8 c.requires.count) c.last_mark-c7.ensures.rest) c.last_mark-c6.ensures.rest) c.last_mark-c5.ensures.rest) c.last_mark-c4.ensures.rest) (c.requires.reached 3 (omega arith))

pub last_mark-c2-requires-clause-count : goal.last_mark-c2-requires-clause-count
last_mark-c2-requires-clause-count g c = (left_less 3 (left_less 4 (left_less 5 (left_less 6 (left_less 7 (left_all c.args.tracks.items 8 c.requires.count) c.last_mark-c7.ensures.rest) c.last_mark-c6.ensures.rest) c.last_mark-c5.ensures.rest) c.last_mark-c4.ensures.rest) c.last_mark-c3.ensures.rest).count

pub last_mark-c2-requires-clause-reached : goal.last_mark-c2-requires-clause-reached
last_mark-c2-requires-clause-reached g c = reached_left 2 (left_less 3 (left_less 4 (left_less 5 (left_less 6 (left_less 7 (left_all c.args.tracks.items 8 c.requires.count) c.last_mark-c7.ensures.rest) c.last_mark-c6.ensures.rest) c.last_mark-c5.ensures.rest) c.last_mark-c4.ensures.rest) c.last_mark-c3.ensures.rest) (c.requires.reached 2 (omega arith))

pub last_mark-c1-requires-clause-count : goal.last_mark-c1-requires-clause-count
last_mark-c1-requires-clause-count g c = (left_less 2 (left_less 3 (left_less 4 (left_less 5 (left_less 6 (left_less 7 (left_all c.args.tracks.items 8 c.requires.count) c.last_mark-c7.ensures.rest) c.last_mark-c6.ensures.rest) c.last_mark-c5.ensures.rest) c.last_mark-c4.ensures.rest) c.last_mark-c3.ensures.rest) c.last_mark-c2.ensures.rest).count

pub last_mark-c1-requires-clause-reached : goal.last_mark-c1-requires-clause-reached
last_mark-c1-requires-clause-reached g c = reached_left 1 (left_less 2 (left_less 3 (left_less 4 (left_less 5 (left_less 6 (left_less 7 (left_all c.args.tracks.items 8 c.requires.count) c.last_mark-c7.ensures.rest) c.last_mark-c6.ensures.rest) c.last_mark-c5.ensures.rest) c.last_mark-c4.ensures.rest) c.last_mark-c3.ensures.rest) c.last_mark-c2.ensures.rest) (c.requires.reached 1 (omega arith))

pub last_mark-c0-requires-clause-count : goal.last_mark-c0-requires-clause-count
last_mark-c0-requires-clause-count g c = (left_less 1 (left_less 2 (left_less 3 (left_less 4 (left_less 5 (left_less 6 (left_less 7 (left_all c.args.tracks.items 8 c.requires.count) c.last_mark-c7.ensures.rest) c.last_mark-c6.ensures.rest) c.last_mark-c5.ensures.rest) c.last_mark-c4.ensures.rest) c.last_mark-c3.ensures.rest) c.last_mark-c2.ensures.rest) c.last_mark-c1.ensures.rest).count

pub last_mark-c0-requires-clause-reached : goal.last_mark-c0-requires-clause-reached
last_mark-c0-requires-clause-reached g c = reached_left 0 (left_less 1 (left_less 2 (left_less 3 (left_less 4 (left_less 5 (left_less 6 (left_less 7 (left_all c.args.tracks.items 8 c.requires.count) c.last_mark-c7.ensures.rest) c.last_mark-c6.ensures.rest) c.last_mark-c5.ensures.rest) c.last_mark-c4.ensures.rest) c.last_mark-c3.ensures.rest) c.last_mark-c2.ensures.rest) c.last_mark-c1.ensures.rest) (c.requires.reached 0 (omega arith))

pub returns : goal.returns
returns g c =
    let l7 : AreLeft c.args.tracks.items c.args.tracks.items 8 = left_all c.args.tracks.items 8 c.requires.count in
    let l6 : AreLeft c.args.tracks.items c.last_mark-c7.new.tracks.items 7 = left_less 7 l7 c.last_mark-c7.ensures.rest in
    let l5 : AreLeft c.args.tracks.items c.last_mark-c6.new.tracks.items 6 = left_less 6 l6 c.last_mark-c6.ensures.rest in
    let l4 : AreLeft c.args.tracks.items c.last_mark-c5.new.tracks.items 5 = left_less 5 l5 c.last_mark-c5.ensures.rest in
    let l3 : AreLeft c.args.tracks.items c.last_mark-c4.new.tracks.items 4 = left_less 4 l4 c.last_mark-c4.ensures.rest in
    let l2 : AreLeft c.args.tracks.items c.last_mark-c3.new.tracks.items 3 = left_less 3 l3 c.last_mark-c3.ensures.rest in
    let l1 : AreLeft c.args.tracks.items c.last_mark-c2.new.tracks.items 2 = left_less 2 l2 c.last_mark-c2.ensures.rest in
    let l0 : AreLeft c.args.tracks.items c.last_mark-c1.new.tracks.items 1 = left_less 1 l1 c.last_mark-c1.ensures.rest in
    marks_at (λ d. mark_at (arc_value (place_of c.args.origins d)) d (get_or c.args.tracks.items d no_track)) _
    (mark_left 0 l0 c.last_mark-c0.ensures.mark)
    (mark_left 1 l1 c.last_mark-c1.ensures.mark)
    (mark_left 2 l2 c.last_mark-c2.ensures.mark)
    (mark_left 3 l3 c.last_mark-c3.ensures.mark)
    (mark_left 4 l4 c.last_mark-c4.ensures.mark)
    (mark_left 5 l5 c.last_mark-c5.ensures.mark)
    (mark_left 6 l6 c.last_mark-c6.ensures.mark)
    (mark_left 7 l7 c.last_mark-c7.ensures.mark)
