use Rattle.std.proofs.Common.{◌%◌, get_or, sym, ap, ◌∙◌, arith}
use Rattle.flight.specs.Flights.{Flight, entry_in, is_due}
use Rattle.std.specs.Int.{bit_at}
use Rattle.flight.proofs.Looks.{not-due}
use Rattle.flight.proofs.Kept.{slot-turned}
use Rattle.flight.proofs.flight.Flight.first_hint.Goals as goal

pub returns-clause-none : goal.returns-clause-none
returns-clause-none g c i below = let word = get_or c.self.inside.hints (c.args.cycle % 64) 0 in ap (λ (f : Flight). is_due c.args.cycle (entry_in f.entries i)) (sym c.self.view_is)
    ∙ not-due c.self.inside.hints c.self.inside.base c.args.cycle i c.self.inside.ring.items c.self.invariant.0.hinted (ap (bit_at word) (sym (slot-turned c.self.inside.base c.slot_of.result i c.slot_of.ensures)) ∙ sym (c.turn.ensures i (omega (arith, below, c.lowest.ensures.within))) ∙ c.lowest.ensures.clear i below)
