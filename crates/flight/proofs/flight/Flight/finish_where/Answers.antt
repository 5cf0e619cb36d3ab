use Rattle.std.proofs.Common.{◌≡◌, ◌<◌, ◌∙◌, ap, refl}
use Rattle.circular_buffer.specs.Buffer.{Buffer}
use Rattle.core_view.specs.declared.entry.Entry.{Entry}
use Rattle.core_view.specs.declared.entry.Stage.TheVariants.{Issued}
use Rattle.core_view.specs.Events.{completed_entry}
use Rattle.core_view.specs.Stages.{execution_of}
use Rattle.flight.specs.Flights.{entry_in}
use Rattle.flight.proofs.Kept.{issued-renamed, flight-finished}
use Rattle.flight.proofs.Ahead.{set-kept}
use Rattle.flight.proofs.flight.Flight.finish_where.Goals as goal

pub invariant_of-self : goal.invariant_of-self
invariant_of-self g c =
    let es = c.self.inside.ring.items in
    let x = execution_of (entry_in es c.args.place).stage in
    let e : Entry = completed_entry (entry_in es c.args.place) x in
    let issued : (entry_in es c.args.place).stage ≡ Issued x = rw (← c.self.view_is) at c.requires.issued in
    let within : c.args.place < c.self.inside.renamed = issued-renamed es c.self.inside.renamed c.args.place x c.self.invariant.0.ahead issued in
    let made = ap (λ (b : Buffer Entry). b.items) c.done_in-due.ensures.ring in (
      flight-finished es _ e x c.args.place c.self.inside.renamed c.self.inside.base c.done_in-due.result c.clear_slot.result _ _ c.self.inside.hints c.self.invariant.0 issued refl refl made
          (λ xs is at few was like. c.finish.ensures xs e x is at few was like refl) c.self.told.0 (λ j low apart. c.clear_slot.ensures.others j low (λ same_slot. apart (same_slot ∙ c.slot_of.ensures))),
      set-kept _ _ _ _ _ _ c.self.invariant.1 made within,
    )
