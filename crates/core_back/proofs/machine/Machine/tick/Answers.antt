use Rattle.std.proofs.Common.{ap, arith}
use Rattle.core_back.specs.Machine.{Machine, with_cycle}
use Rattle.core_back.proofs.InFlight.{in_flight_same}
use Rattle.core_back.proofs.machine.Machine.tick.Goals as goal

pub invariant_of-self : goal.invariant_of-self
invariant_of-self g c =
    let ok = c.self.invariant in
    record {
      cores = ok.cores;
      origins = ok.origins;
      tracks = ok.tracks;
      lanes = ok.lanes;
      contexts = ok.contexts;
      let_go = ok.let_go;
      apart = ok.apart;
      supplied = ok.supplied;
      held = ok.held;
      waits = ok.waits;
      stamps = omega (arith, ok.stamps);
      room = ok.room;
      fills = ok.fills;
    }

pub returns-clause-next : goal.returns-clause-next
returns-clause-next g c = ap with_cycle c.self.view_is

pub returns-clause-flights : goal.returns-clause-flights
returns-clause-flights g c = in_flight_same c.args.self.now _ (ap (λ (m : Machine). m.view.contexts) c.self.view_is)
