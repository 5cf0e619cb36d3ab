use Rattle.std.proofs.Common.{arith}
use Rattle.flight.proofs.Looks.{word-next, word-past}
use Rattle.flight.proofs.flight.Flight.next_marked.Goals as goal

pub returns-then-place-self-clause-next : goal.returns-then-place-self-clause-next
returns-then-place-self-clause-next g c = rw (← c.self.view_is) (λ test is fetched. word-next test c.self.inside.ring.items c.args.word c.self.inside.renamed c.args.from c.next-place.result is c.self.invariant.0.within c.self.invariant.0.ahead fetched
    c.next-place.ensures.from c.if-place-self.true (c.next-place.ensures.set (omega (arith, c.if-place-self.true, c.self.invariant.0.few))) c.next-place.ensures.clear)

pub returns-else-place-self-clause-next : goal.returns-else-place-self-clause-next
returns-else-place-self-clause-next g c = rw (← c.self.view_is) (λ test is fetched. word-past test c.self.inside.ring.items c.args.word c.self.inside.renamed c.args.from c.next-place.result is c.self.invariant.0.within c.self.invariant.0.ahead fetched
    (omega (arith, c.if-place-self.false)) c.next-place.ensures.clear)
