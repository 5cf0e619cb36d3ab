use Rattle.std.proofs.Common.{ap}
use Rattle.circular_buffer.specs.Buffer.{Buffer}
use Rattle.core_view.specs.declared.entry.Entry.{Entry}
use Rattle.flight.proofs.Kept.{flight_of}
use Rattle.flight.proofs.flight.Flight.new.Goals as goal

pub returns : goal.returns
returns g c = ap (λ (b : Buffer Entry). flight_of b.items 0 b.capacity) c.in-Ok.ensures.ok
