use Rattle.std.proofs.Common.{slice_set, ap, ◌∙◌}
use Rattle.circular_buffer.specs.Buffer.{buffer}
use Rattle.core_view.specs.declared.entry.Entry.{Entry}
use Rattle.core_view.specs.Stages.{execution_of}
use Rattle.core_view.specs.Events.{completed_entry}
use Rattle.flight.proofs.flight.complete_in.Goals as goal

pub returns-clause-ring : goal.returns-clause-ring
returns-clause-ring g c =
    let is = c.completed-entry.ensures ∙ ap (λ (e : Entry). completed_entry e (execution_of e.stage)) c.at.ensures in
    c.set_in.ensures ∙ ap (λ (e : Entry). buffer (slice_set c.args.ring.now.items c.args.place e) c.args.ring.now.capacity) is
