use Rattle.std.proofs.Common.{take, arith}
use Rattle.flight.specs.Marked.{is_issued_load}
use Rattle.flight.specs.Flights.{Flight}
use Rattle.flight.proofs.Words.{few-taken}
use Rattle.flight.proofs.Looks.{next-renamed, past-renamed}
use Rattle.flight.proofs.flight.Flight.next_issued_load.Goals as goal

pub returns-then-place-lt64 : goal.returns-then-place-lt64
returns-then-place-lt64 g c =
    let f : Flight = record { entries = c.self.inside.ring.items; renamed = c.self.inside.renamed; capacity = c.self.inside.ring.capacity } in
    let word = c.issued_loads.ensures (take f.renamed f.entries) c.self.invariant.0.marked (few-taken f.entries f.renamed c.self.invariant.0.within c.self.invariant.0.few) in
    rw (← c.self.view_is) (next-renamed is_issued_load f _ word c.self.invariant.0.within c.args.from c.next-place.result c.next-place.ensures.from (c.next-place.ensures.set c.if-place-lt64.true) c.next-place.ensures.clear)

pub returns-else-place-lt64 : goal.returns-else-place-lt64
returns-else-place-lt64 g c =
    let f : Flight = record { entries = c.self.inside.ring.items; renamed = c.self.inside.renamed; capacity = c.self.inside.ring.capacity } in
    let word = c.issued_loads.ensures (take f.renamed f.entries) c.self.invariant.0.marked (few-taken f.entries f.renamed c.self.invariant.0.within c.self.invariant.0.few) in
    rw (← c.self.view_is) (past-renamed is_issued_load f _ word c.self.invariant.0.within c.args.from c.next-place.result (omega (arith, c.self.invariant.0.few, c.if-place-lt64.false)) c.next-place.ensures.clear)
