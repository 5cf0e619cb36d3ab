use Rattle.std.proofs.Common.{slice_set, ap, ◌∙◌}
use Rattle.circular_buffer.specs.Buffer.{buffer}
use Rattle.core_view.specs.declared.entry.Entry.{Entry}
use Rattle.core_view.specs.declared.entry.Stage.TheVariants.{Issued}
use Rattle.core_view.specs.Events.{with_stage}
use Rattle.flight.proofs.flight.issue_in.Goals as goal

pub returns : goal.returns
returns g c =
    let is = c.issued-entry.ensures ∙ ap (λ (e : Entry). with_stage e (Issued c.args.execution)) c.at.ensures in
    c.set_in.ensures ∙ ap (λ (e : Entry). buffer (slice_set c.args.ring.now.items c.args.place e) c.args.ring.now.capacity) is
