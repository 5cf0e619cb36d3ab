use Rattle.std.proofs.Common.{sym, ◌∙◌, ◌≤◌, ℕ, refl, subst}
use Rattle.checkpoint_book.specs.declared.call.Call.TheVariants.{Read}
use Rattle.checkpoint_book.specs.History.{greatest}
use Rattle.checkpoint_book.specs.LockSeats.{calls_of}
use Rattle.checkpoint_book.proofs.Histories.{own_added, if_ok, reading_above}
use Rattle.checkpoint_book.proofs.lock.Lock.furthest.Goals as goal

pub returns-clause-ok : goal.returns-clause-ok
returns-clause-ok g c = if_ok c.read-reading.result
    (λ m new _. c.give.ensures.calls ∙ own_added c.args.pass c.take-page.result.history.items _ (Read c.args.pass m.count) (calls_of c.args.seat.now) refl new c.take-page.ensures.calls.1)
    c.read-reading.ensures.ok c.read-reading.ensures.ok

pub returns-clause-above : goal.returns-clause-above
returns-clause-above g c =
    let page = c.take-page.result in
    let r = reading_above page.opening.value.count c.args.pass (calls_of c.args.seat.now) page.history.items page.legal c.take-page.ensures.calls.1 in
    if_ok c.read-reading.result
    (λ m value _. subst (λ (z : ℕ × ℕ). (z.0 ≤ z.1) × (greatest (calls_of c.args.seat.now) ≤ z.1)) (λ i. ((c.take-page.ensures.opening i).count, sym value i)) r)
    c.read-reading.ensures.value c.read-reading.ensures.value
