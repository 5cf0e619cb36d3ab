use Rattle.std.proofs.Common.{length, arith, ap, sym, ◌∙◌}
use Rattle.core_view.specs.declared.outcome.Outcome.TheVariants.{Goes}
use Rattle.core_view.proofs.Live.{flight_running}
use Rattle.core_context.specs.Track.{Track}
use Rattle.entry_stages.specs.Heads.{first_done, step_on}
use Rattle.core_context.proofs.Retires.{is_first_done, oldest_renamed, oldest_known, oldest_done, oldest_idle, oldest_below, oldest_sized, oldest_unwritten, oldest_followed, oldest_goes}
use Rattle.core_context.proofs.EventsKept.{parked_is, parked_kept, running_is, running_kept, one_fewer}
use Rattle.core_context.proofs.events.retire.Goals as goal

pub commit-requires-clause-some : goal.commit-requires-clause-some
commit-requires-clause-some g c =
    let k = c.requires.core in
    let d = is_first_done c.args.track.now.context.flight (Goes (step_on (first_done c.args.track.now.context.flight))) c.requires.done in
    oldest_known k.start k.stamp k.reorder c.args.flow.now c.args.context c.args.track.now d.execution (step_on (first_done c.args.track.now.context.flight)) k.core d.some d.stage

pub commit-requires-clause-done : goal.commit-requires-clause-done
commit-requires-clause-done g c =
    let k = c.requires.core in
    let d = is_first_done c.args.track.now.context.flight (Goes (step_on (first_done c.args.track.now.context.flight))) c.requires.done in
    oldest_done k.start k.stamp k.reorder c.args.flow.now c.args.context c.args.track.now d.execution (step_on (first_done c.args.track.now.context.flight)) k.core d.some d.stage d.outcome

pub commit-requires-clause-idle : goal.commit-requires-clause-idle
commit-requires-clause-idle g c =
    let k = c.requires.core in
    let d = is_first_done c.args.track.now.context.flight (Goes (step_on (first_done c.args.track.now.context.flight))) c.requires.done in
    oldest_idle k.start k.stamp k.reorder c.args.flow.now c.args.context c.args.track.now d.execution (step_on (first_done c.args.track.now.context.flight)) k.core d.some d.stage

pub step-stamp-requires-clause-some : goal.step-stamp-requires-clause-some
step-stamp-requires-clause-some g c =
    let k = c.requires.core in
    let d = is_first_done c.args.track.now.context.flight (Goes (step_on (first_done c.args.track.now.context.flight))) c.requires.done in
    oldest_renamed k.start k.stamp k.reorder c.args.flow.now c.args.context c.args.track.now d.execution (step_on (first_done c.args.track.now.context.flight)) k.core d.some d.stage

pub step-stamp-requires-clause-below : goal.step-stamp-requires-clause-below
step-stamp-requires-clause-below g c =
    let k = c.requires.core in
    let d = is_first_done c.args.track.now.context.flight (Goes (step_on (first_done c.args.track.now.context.flight))) c.requires.done in
    oldest_below k.start k.stamp k.reorder c.args.flow.now c.args.context c.args.track.now d.execution (step_on (first_done c.args.track.now.context.flight)) k.core d.some

pub step-stamp-requires-clause-sized : goal.step-stamp-requires-clause-sized
step-stamp-requires-clause-sized g c =
    let k = c.requires.core in
    let d = is_first_done c.args.track.now.context.flight (Goes (step_on (first_done c.args.track.now.context.flight))) c.requires.done in
    oldest_sized k.start k.stamp k.reorder c.args.flow.now c.args.context c.args.track.now d.execution (step_on (first_done c.args.track.now.context.flight)) k.core d.some d.stage d.outcome

pub step-stamp-requires-clause-unwritten : goal.step-stamp-requires-clause-unwritten
step-stamp-requires-clause-unwritten g c idle =
    let k = c.requires.core in
    let d = is_first_done c.args.track.now.context.flight (Goes (step_on (first_done c.args.track.now.context.flight))) c.requires.done in
    oldest_unwritten k.start k.stamp k.reorder c.args.flow.now c.args.context c.args.track.now d.execution (step_on (first_done c.args.track.now.context.flight)) k.core d.some d.stage d.outcome idle

pub step-stamp-requires-clause-followed : goal.step-stamp-requires-clause-followed
step-stamp-requires-clause-followed g c =
    let k = c.requires.core in
    let d = is_first_done c.args.track.now.context.flight (Goes (step_on (first_done c.args.track.now.context.flight))) c.requires.done in
    oldest_followed k.start k.stamp k.reorder c.args.flow.now c.args.context c.args.track.now d.execution (step_on (first_done c.args.track.now.context.flight)) k.core d.some d.stage d.outcome

pub step-stamp-requires-clause-goes : goal.step-stamp-requires-clause-goes
step-stamp-requires-clause-goes g c =
    let k = c.requires.core in
    let d = is_first_done c.args.track.now.context.flight (Goes (step_on (first_done c.args.track.now.context.flight))) c.requires.done in
    oldest_goes k.start k.stamp k.reorder c.args.flow.now c.args.context c.args.track.now d.execution (step_on (first_done c.args.track.now.context.flight)) k.core d.some d.stage d.outcome

pub returns-then-is_at_target-clause-track : goal.returns-then-is_at_target-clause-track
returns-then-is_at_target-clause-track g c =
    parked_is c.args.flow.now c.commit.new.self c.args.context c.args.track.now c.step-stamp.new.self (step_on (first_done c.args.track.now.context.flight)) c.requires.core.has_lane c.requires.done c.commit.ensures c.step-stamp.ensures.stepped c.park-dropped.new.track c.park-dropped.ensures.track (sym c.is_at_target.ensures ∙ c.if-is_at_target.true)

pub returns-then-is_at_target-clause-event : goal.returns-then-is_at_target-clause-event
returns-then-is_at_target-clause-event g c =
    parked_kept c.args.flow.now c.commit.new.self c.args.context c.args.track.now c.step-stamp.new.self (step_on (first_done c.args.track.now.context.flight)) c.requires.core.has_lane c.requires.done c.commit.ensures c.step-stamp.ensures.stepped c.park-dropped.new.track c.park-dropped.new.flow c.park-dropped.ensures.track c.park-dropped.ensures.flow (sym c.is_at_target.ensures ∙ c.if-is_at_target.true)

pub returns-clause-track : goal.returns-clause-track
returns-clause-track g c =
    let k = c.requires.core in
    let d = is_first_done c.args.track.now.context.flight (Goes (step_on (first_done c.args.track.now.context.flight))) c.requires.done in
    running_is c.args.flow.now c.commit.new.self c.args.context c.args.track.now c.step-stamp.new.self (step_on (first_done c.args.track.now.context.flight)) c.requires.core.has_lane c.requires.done c.commit.ensures c.step-stamp.ensures.stepped (flight_running k.start k.stamp c.args.track.now.context d.some k.core.live) (sym c.is_at_target.ensures ∙ c.if-is_at_target.false)

pub returns-clause-event : goal.returns-clause-event
returns-clause-event g c =
    let k = c.requires.core in
    let d = is_first_done c.args.track.now.context.flight (Goes (step_on (first_done c.args.track.now.context.flight))) c.requires.done in
    running_kept c.args.flow.now c.commit.new.self c.args.context c.args.track.now c.step-stamp.new.self (step_on (first_done c.args.track.now.context.flight)) c.requires.core.has_lane c.requires.done c.commit.ensures c.step-stamp.ensures.stepped (flight_running k.start k.stamp c.args.track.now.context d.some k.core.live) (sym c.is_at_target.ensures ∙ c.if-is_at_target.false)

pub returns-then-is_at_target-clause-dropped : goal.returns-then-is_at_target-clause-dropped
returns-then-is_at_target-clause-dropped g c =
    omega (arith, c.park-dropped.ensures.dropped, one_fewer c.args.flow.now c.commit.new.self c.args.context c.args.track.now c.step-stamp.new.self (step_on (first_done c.args.track.now.context.flight)) c.requires.core.has_lane c.requires.done c.commit.ensures c.step-stamp.ensures.stepped, ap (λ (t : Track). length t.context.flight) c.park-dropped.ensures.track)

pub returns-clause-dropped : goal.returns-clause-dropped
returns-clause-dropped g c =
    omega (arith, one_fewer c.args.flow.now c.commit.new.self c.args.context c.args.track.now c.step-stamp.new.self (step_on (first_done c.args.track.now.context.flight)) c.requires.core.has_lane c.requires.done c.commit.ensures c.step-stamp.ensures.stepped)
