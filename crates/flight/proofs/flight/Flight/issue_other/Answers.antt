use Rattle.std.proofs.Common.{◌≡◌, ◌<◌, ◌∙◌, ap, sym, refl, false}
use Rattle.core_view.specs.declared.entry.Stage.TheVariants.{Issued}
use Rattle.std.specs.Int.{bit_at}
use Rattle.core_view.specs.Events.{with_stage}
use Rattle.core_view.specs.Operations.{is_load}
use Rattle.circular_buffer.specs.Buffer.{Buffer}
use Rattle.core_view.specs.declared.entry.Entry.{Entry}
use Rattle.flight.specs.Flights.{entry_in}
use Rattle.flight.proofs.Kept.{queued-renamed, flight-issued}
use Rattle.flight.proofs.Ahead.{set-kept}
use Rattle.flight.proofs.flight.Flight.issue_other.Goals as goal

pub invariant_of-self : goal.invariant_of-self
invariant_of-self g c =
    let queued = rw (← c.self.view_is) at c.requires.queued in
    let within : c.args.place < c.self.inside.renamed = queued-renamed c.self.inside.ring.items c.self.inside.renamed c.args.place c.self.invariant.0.ahead queued in
    let e : Entry = with_stage (entry_in c.self.inside.ring.items c.args.place) (Issued c.args.execution) in
    let made = ap (λ (b : Buffer Entry). b.items) c.issue_in.ensures in
    let at : is_load (entry_in c.self.inside.ring.items c.args.place).operation ≡ false = rw (← c.self.view_is) at c.requires.other in
    (flight-issued _ _ e c.args.place _ _ _ _ _ c.args.execution c.set_slot.result c.self.invariant.0 within c.self.told.0 queued refl made (λ xs y marks waits same stage lt few. c.issue_other.ensures xs e y marks waits same at stage lt few) (ap (bit_at c.set_slot.result) (sym c.slot_of.ensures) ∙ c.set_slot.ensures.set) c.set_slot.ensures.others, set-kept _ _ _ _ _ _ c.self.invariant.1 made within)
