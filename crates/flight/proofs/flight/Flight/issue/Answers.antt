use Rattle.std.proofs.Common.{◌<◌, ◌∙◌, ap, sym, slice_set}
use Rattle.core_view.specs.declared.entry.Stage.TheVariants.{Issued}
use Rattle.std.specs.Int.{bit_at}
use Rattle.core_view.specs.Events.{with_stage}
use Rattle.circular_buffer.specs.Buffer.{Buffer}
use Rattle.core_view.specs.declared.entry.Entry.{Entry}
use Rattle.flight.proofs.Kept.{queued-renamed, flight-issued}
use Rattle.flight.proofs.Ahead.{set-kept}
use Rattle.flight.proofs.flight.Flight.issue.Goals as goal

pub invariant_of-self : goal.invariant_of-self
invariant_of-self g c =
    let queued = rw (← c.self.view_is) at c.requires.queued in
    let within : c.args.place < c.self.inside.renamed = queued-renamed c.self.inside.ring.items c.self.inside.renamed c.args.place c.self.invariant.0.ahead queued in
    let is = c.issued-entry.ensures ∙ ap (λ (e : Entry). with_stage e (Issued c.args.execution)) c.at.ensures in
    let made = ap (λ (b : Buffer Entry). b.items) c.issue_in.ensures ∙ ap (λ (e : Entry). slice_set c.self.inside.ring.items c.args.place e) (sym is) in
    (flight-issued _ _ c.issued-entry.result c.args.place _ _ _ _ _ c.args.execution c.set_slot.result c.self.invariant.0 within c.self.told.0 queued is made c.issue.ensures (ap (bit_at c.set_slot.result) (sym c.slot_of.ensures) ∙ c.set_slot.ensures.set) c.set_slot.ensures.others, set-kept _ _ _ _ _ _ c.self.invariant.1 made within)
