use Rattle.std.proofs.Common.{◌≡◌, ◌<◌, ◌+◌, true, take, subst, ap, arith}
use Rattle.core_view.specs.Operations.{is_store}
use Rattle.flight.specs.Marked.{is_issued_load}
use Rattle.flight.specs.Flights.{Flight, entry_in, NoneRenamedFrom}
use Rattle.flight.proofs.Looks.{unread}
use Rattle.flight.proofs.Words.{few-taken}
use Rattle.flight.proofs.flight.Flight.may_be_read.Goals as goal

pub has_from-requires : goal.has_from-requires
has_from-requires g c = omega (arith, c.requires, ap (λ (f : Flight). f.renamed) c.self.view_is, c.self.invariant.0.few)

pub returns : goal.returns
returns g c clear =
    let h = c.self.invariant.0 in
    let es = c.self.inside.ring.items in
    let r = c.self.inside.renamed in
    let f : Flight = record { entries = es; renamed = r; capacity = c.self.inside.ring.capacity } in
    let renamed : c.args.place < r = omega (arith, c.requires, ap (λ (f : Flight). f.renamed) c.self.view_is) in
    let none = unread f c.of_kind-stores.result c.issued_loads.result c.args.place (c.of_kind-stores.ensures (take r es) h.marked) (c.issued_loads.ensures (take r es) h.marked (few-taken es r h.within h.few)) h.within renamed (c.has_from.ensures.none clear) in
    subst (λ (f : Flight). is_store (entry_in f.entries c.args.place).operation ≡ true → NoneRenamedFrom is_issued_load f (c.args.place + 1)) c.self.view_is none
