use Rattle.std.proofs.Common.{take, arith}
use Rattle.core_view.specs.Flight.{is_open_guess}
use Rattle.flight.proofs.Words.{bit-clear, bit-set, few-taken}
use Rattle.flight.proofs.flight.Flight.first_open_guess.Goals as goal

pub returns-clause-before : goal.returns-clause-before
returns-clause-before g c =
    let es = c.self.inside.ring.items in
    let r = c.self.inside.renamed in
    let h = c.self.invariant.0 in
    let word = c.open_guesses.ensures (take r es) h.marked (few-taken es r h.within h.few) in
    rw (← c.self.view_is) (λ i before renamed. bit-clear is_open_guess es _ r i word h.within renamed (c.next.ensures.clear i (omega arith) before))

pub returns-clause-here : goal.returns-clause-here
returns-clause-here g c =
    let es = c.self.inside.ring.items in
    let r = c.self.inside.renamed in
    let h = c.self.invariant.0 in
    let word = c.open_guesses.ensures (take r es) h.marked (few-taken es r h.within h.few) in
    rw (← c.self.view_is) (λ renamed. bit-set is_open_guess es _ r c.next.result word h.within renamed (c.next.ensures.set (omega (arith, renamed, h.few))))
