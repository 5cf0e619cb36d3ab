use Rattle.std.proofs.Common.{◌<◌, ◌≤◌, length, arith, subst}
use Rattle.std.specs.Prelude.{MatchOption}
use Rattle.flight.specs.Flights.{NoneFrom, IsNext}
use Rattle.flight.specs.Marked.{is_waiting}
use Rattle.core_context.proofs.Settles.{settled_queued, settled_pass, settled_end}
use Rattle.core_context.proofs.events.settle_speculation.Goals as goal

pub loop-place-init : goal.loop-place-init
loop-place-init g c =
    let first = c.min-first.ensures in
    record {
      settled = c.requires.told c.min-first.result (omega (arith, first)) (λ i lt. c.first_open_guess-guess.ensures.before i (omega (arith, lt, first)) (omega (arith, lt, first, c.requires.renamed)));
      low = omega (arith, first, c.requires.renamed);
      past = omega (arith, first);
      few = omega (arith, first, c.requires.renamed, c.renamed_count-renamed.ensures.value, c.renamed_count-renamed.ensures.few);
    }

pub loop-place-preserved : goal.loop-place-preserved
loop-place-preserved g c =
    let next = c.in-Some.ensures.next in
    let after : c.loop-place.first ≤ c.in-Some.place = next.after in
    let within : c.in-Some.place < length c.args.track.now.context.flight = next.within in
    let renamed : c.in-Some.place < c.args.track.now.renamed = c.in-Some.ensures.renamed in
    let few : c.in-Some.place < 64 = c.in-Some.ensures.few in
    let to = settled_pass c.args.flow.now c.loop-place.flow c.args.context c.args.track.now.context.flight c.loop-place.first c.in-Some.place c.loop-place.invariant.settled after (omega (arith, within)) next.first in
    record {
      settled = settled_queued c.args.flow.now c.loop-place.flow c.speculate.new.self c.args.context c.args.track.now.context.flight c.in-Some.place c.entry_at-entry.result to within c.entry_at-entry.ensures next.passes c.speculate.ensures;
      low = omega (arith, renamed);
      past = omega (arith, c.if-place-guess.false);
      few = omega (arith, few);
    }

pub returns-then-place-guess : goal.returns-then-place-guess
returns-then-place-guess g c =
    let next = c.in-Some.ensures.next in
    let h = c.loop-place.invariant in
    settled_end c.args.flow.now c.loop-place.flow c.args.context c.args.track.now c.first_open_guess-guess.result c.loop-place.first h.settled h.low h.past (omega (arith, c.renamed_count-renamed.ensures.value, c.renamed_count-renamed.ensures.bound))
    (λ i from below low. next.first i from (omega (arith, low, c.if-place-guess.true))) c.first_open_guess-guess.ensures.before c.first_open_guess-guess.ensures.here

pub returns : goal.returns
returns g c =
    let es = c.args.track.now.context.flight in
    let h = c.loop-place.invariant in
    let none : NoneFrom is_waiting es c.loop-place.first = subst (λ o. MatchOption o (NoneFrom is_waiting es c.loop-place.first) (λ place. IsNext is_waiting es c.loop-place.first place)) c.in_default.is c.next_queued.ensures.next in
    settled_end c.args.flow.now c.loop-place.flow c.args.context c.args.track.now c.first_open_guess-guess.result c.loop-place.first h.settled h.low h.past (omega (arith, c.renamed_count-renamed.ensures.value, c.renamed_count-renamed.ensures.bound))
    (λ i from below low. none i from) c.first_open_guess-guess.ensures.before c.first_open_guess-guess.ensures.here
