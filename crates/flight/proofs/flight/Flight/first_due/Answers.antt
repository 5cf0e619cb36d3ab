use Rattle.std.proofs.Common.{refl, sym, arith}
use Rattle.flight.proofs.flight.Flight.first_due.Goals as goal

pub returns-then-is_due : goal.returns-then-is_due
returns-then-is_due g c = record {
  after = omega arith;
  within = c.if-is_due.ensures.within refl;
  passes = sym c.if-is_due.ensures.value;
  first = λ i after below. c.first_hint-place.ensures.none i below;
}
