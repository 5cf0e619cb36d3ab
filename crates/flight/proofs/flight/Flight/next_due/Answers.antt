use Rattle.std.proofs.Common.{◌≡◌, ℕ, ◌+◌, ◌<◌, ◌≤◌, false, refl, sym, ap, ◌∙◌, subst, arith}
use Rattle.std.specs.Prelude.{is_some}
use Rattle.core_view.specs.Events.{due_at}
use Rattle.flight.specs.Flights.{Flight, entry_in, is_due, NoneFrom}
use Rattle.flight.proofs.Looks.{none-from, skip}
use Rattle.flight.proofs.flight.Flight.next_due.Goals as goal

pub loop-place-init : goal.loop-place-init
loop-place-init g c = record { same = refl; after = c.next_hint-place.ensures.from; within = c.next_hint-place.ensures.within; none = c.next_hint-place.ensures.none }

pub returns-clause-next : goal.returns-clause-next
returns-clause-next g c =
    let none = subst (λ (f : Flight). (i : ℕ) → c.args.from ≤ i → i < c.loop-place.place → is_due c.args.cycle (entry_in f.entries i) ≡ false) (sym c.self.view_is) c.loop-place.invariant.none in
    subst (λ (f : Flight). NoneFrom (is_due c.args.cycle) f.entries c.args.from) c.self.view_is
    (none-from (is_due c.args.cycle) c.self.inside.ring.items c.args.from c.loop-place.place c.self.inside.renamed none (omega (arith, c.loop-place-test.false, c.self.invariant.0.few)) c.self.invariant.0.ahead
    (λ e is. ap (λ s. is_some (due_at c.args.cycle s)) is))

pub loop-place-preserved : goal.loop-place-preserved
loop-place-preserved g c =
    let same = c.clear_hint.ensures ∙ c.loop-place.invariant.same in
    let here = ap (λ (f : Flight). is_due c.args.cycle (entry_in f.entries c.loop-place.place)) (sym c.loop-place.invariant.same) ∙ sym c.is_due.ensures.value ∙ c.if-is_due.false in
    let later : (i : ℕ) → c.loop-place.place + 1 ≤ i → i < c.next_hint-place-in-loop-place.result → is_due c.args.cycle (entry_in c.args.self.now.entries i) ≡ false = λ i after below. ap (λ (f : Flight). is_due c.args.cycle (entry_in f.entries i)) (sym same) ∙ c.next_hint-place-in-loop-place.ensures.none i after below in
    record {
      same = same;
      after = omega (arith, c.loop-place.invariant.after, c.next_hint-place-in-loop-place.ensures.from);
      within = c.next_hint-place-in-loop-place.ensures.within;
      none = skip (λ i. is_due c.args.cycle (entry_in c.args.self.now.entries i)) c.args.from c.loop-place.place c.next_hint-place-in-loop-place.result c.loop-place.invariant.none here later;
    }
