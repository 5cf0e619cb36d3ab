use Rattle.std.proofs.Common.{◌≡◌, ◌≢◌, ◌%◌, ◌∙◌, sym, subst}
use Rattle.core_view.specs.declared.entry.Execution.{Execution}
use Rattle.core_view.specs.declared.entry.Stage.TheVariants.{Issued}
use Rattle.flight.specs.Flights.{Flight, entry_in}
use Rattle.flight.proofs.Kept.{flight-cleared}
use Rattle.flight.proofs.flight.Flight.clear_hint.Goals as goal

pub invariant_of-self : goal.invariant_of-self
invariant_of-self g c =
    let idle = subst (λ (f : Flight). (x : Execution) → (entry_in f.entries c.args.place).stage ≡ Issued x → x.due % 64 ≢ c.args.cycle % 64) (sym c.self.view_is) (c.is_due_in_round.ensures c.if-is_due_in_round.false) in (
      flight-cleared c.self.inside.ring.items c.args.place c.self.inside.renamed c.self.inside.base c.args.cycle c.clear_slot.result _ c.self.inside.hints c.self.invariant.0 c.requires c.self.told.0 idle (λ j low apart. c.clear_slot.ensures.others j low (λ same_slot. apart (same_slot ∙ c.slot_of.ensures))),
      c.self.invariant.1,
    )
