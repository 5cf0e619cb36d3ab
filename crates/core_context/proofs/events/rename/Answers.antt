use Rattle.std.proofs.Common.{arith}
use Rattle.core_context.proofs.Renames.{nodes_older, first_idle, first_fetched}
use Rattle.core_context.proofs.EventsKept.{rename_kept, nothing_kept}
use Rattle.core_context.proofs.events.rename.Goals as goal

pub rename_oldest-requires-clause-few : goal.rename_oldest-requires-clause-few
rename_oldest-requires-clause-few g c = omega (arith, c.in_ok-stamp.ensures.can.fits, c.args.profile.now.reorder_buffer_in_range.1)

pub rename_oldest-requires-clause-younger : goal.rename_oldest-requires-clause-younger
rename_oldest-requires-clause-younger g c = nodes_older c.requires.core.core c.in_ok-stamp.ensures.can.some

pub rename_oldest-requires-clause-fresh : goal.rename_oldest-requires-clause-fresh
rename_oldest-requires-clause-fresh g c = first_idle c.requires.core.core c.in_ok-stamp.ensures.can.some

pub returns-clause-fetched : goal.returns-clause-fetched
returns-clause-fetched g c = first_fetched c.requires.core.core c.in_ok-stamp.ensures.can.some

pub returns-clause-event : goal.returns-clause-event
returns-clause-event g c =
    let r = c.in_ok-stamp.ensures.can in
    rw (c.rename_oldest.ensures.track, c.rename_oldest.ensures.flow) (rename_kept c.args.flow.now c.args.context c.args.track.now c.args.cycle c.args.profile.now.reorder_buffer c.requires.core.is_context c.requires.core.has_lane r.some r.fits c.requires.room)

pub returns-in_err-stamp-clause-event : goal.returns-in_err-stamp-clause-event
returns-in_err-stamp-clause-event g c = nothing_kept c.args.flow.now c.args.context c.args.track.now

pub returns-clause-can : goal.returns-clause-can
returns-clause-can g c = c.in_ok-stamp.ensures.can
