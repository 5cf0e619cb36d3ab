use Rattle.std.proofs.Common.{◌≡◌, ◌<◌, true, take, ap, sym, subst, arith}
use Rattle.core_view.specs.Flight.{is_open_guess}
use Rattle.flight.specs.Marked.{is_waiting}
use Rattle.flight.specs.Flights.{Flight, entry_in, NoneOpenBelow}
use Rattle.flight.proofs.Words.{bit-clear, bit-set, bit-one, bit-zero, bit-within, few-taken}
use Rattle.flight.proofs.flight.Flight.unguarded.Goals as goal

pub returns-clause-set : goal.returns-clause-set
returns-clause-set g c i lt waits none =
    let es = c.self.inside.ring.items in
    let r = c.self.inside.renamed in
    let h = c.self.invariant.0 in
    let below : i < r = omega (arith, lt, ap (λ (f : Flight). f.renamed) c.self.view_is) in
    let waits_there : is_waiting (entry_in es i) ≡ true = subst (λ (f : Flight). is_waiting (entry_in f.entries i) ≡ true) (sym c.self.view_is) waits in
    let none_there : NoneOpenBelow es i = subst (λ (f : Flight). NoneOpenBelow f.entries i) (sym c.self.view_is) none in
    c.both.ensures.set i (bit-one is_waiting es c.waiting.result r i (c.waiting.ensures (take c.self.inside.renamed c.self.inside.ring.items) h.marked) h.within below waits_there)
    (c.up_to_first.ensures.set i (omega (arith, below, h.few)) (λ j before. bit-zero is_open_guess es c.open_guesses.result r j (c.open_guesses.ensures (take c.self.inside.renamed c.self.inside.ring.items) h.marked (few-taken c.self.inside.ring.items c.self.inside.renamed h.within h.few)) h.within (omega (arith, before, below)) (none_there j before)))

pub returns-clause-within : goal.returns-clause-within
returns-clause-within g c i one =
    let h = c.self.invariant.0 in
    let below = bit-within is_waiting c.self.inside.ring.items c.waiting.result c.self.inside.renamed i (c.waiting.ensures (take c.self.inside.renamed c.self.inside.ring.items) h.marked) h.within (c.both.ensures.first i one) in
    omega (arith, below, ap (λ (f : Flight). f.renamed) c.self.view_is)

pub returns-clause-waits : goal.returns-clause-waits
returns-clause-waits g c i one =
    let h = c.self.invariant.0 in
    let set_ = c.both.ensures.first i one in
    let below = bit-within is_waiting c.self.inside.ring.items c.waiting.result c.self.inside.renamed i (c.waiting.ensures (take c.self.inside.renamed c.self.inside.ring.items) h.marked) h.within set_ in
    subst (λ (f : Flight). is_waiting (entry_in f.entries i) ≡ true) c.self.view_is (bit-set is_waiting c.self.inside.ring.items c.waiting.result c.self.inside.renamed i (c.waiting.ensures (take c.self.inside.renamed c.self.inside.ring.items) h.marked) h.within below set_)

pub returns-clause-none_open : goal.returns-clause-none_open
returns-clause-none_open g c i one =
    let h = c.self.invariant.0 in
    let below = bit-within is_waiting c.self.inside.ring.items c.waiting.result c.self.inside.renamed i (c.waiting.ensures (take c.self.inside.renamed c.self.inside.ring.items) h.marked) h.within (c.both.ensures.first i one) in
    subst (λ (f : Flight). NoneOpenBelow f.entries i) c.self.view_is
    (λ j before. bit-clear is_open_guess c.self.inside.ring.items c.open_guesses.result c.self.inside.renamed j (c.open_guesses.ensures (take c.self.inside.renamed c.self.inside.ring.items) h.marked (few-taken c.self.inside.ring.items c.self.inside.renamed h.within h.few)) h.within (omega (arith, before, below))
    (c.up_to_first.ensures.clear i (c.both.ensures.second i one) j before))
