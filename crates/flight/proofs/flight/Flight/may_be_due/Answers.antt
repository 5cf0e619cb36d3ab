use Rattle.std.proofs.Common.{◌≡◌, ◌+◌, ◌%◌, get_or, sym, ap, ◌∙◌, rules}
use Rattle.std.specs.Int.{bit_at}
use Rattle.std.proofs.lemmas.Nat.Bits.{bit_at-zero}
use Rattle.flight.specs.Flights.{Flight, entry_in, is_due}
use Rattle.flight.proofs.Looks.{not-due}
use Rattle.flight.proofs.flight.Flight.may_be_due.Goals as goal

pub returns : goal.returns
returns g c none i =
    let slot = (c.self.inside.base + i) % 64 in
    let empty : get_or c.self.inside.hints (c.args.cycle % 64) 0 ≡ 0 = search rules in
    ap (λ (f : Flight). is_due c.args.cycle (entry_in f.entries i)) (sym c.self.view_is)
    ∙ not-due c.self.inside.hints c.self.inside.base c.args.cycle i c.self.inside.ring.items c.self.invariant.0.hinted (ap (λ w. bit_at w slot) empty ∙ bit_at-zero slot)
