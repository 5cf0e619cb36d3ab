use Rattle.std.proofs.Common.{arith, ap, ◌∙◌, refl}
use Rattle.core_view.specs.Events.{stop_event}
use Rattle.core_back.specs.Machine.{Machine, context_at}
use Rattle.core_back.proofs.RetireSteps.{turn_stops, turn_used_up}
use Rattle.core_back.proofs.AlikeMachines.{alike_with}
use Rattle.core_back.proofs.LearnedRuns.{learned_none, part_with, part_ended}
use Rattle.core_back.specs.Turn.{ended}
use Rattle.core_back.proofs.retiring.retire_oldest.Goals as goal

-- ---- nothing is left of the width

pub returns-then-left-eq0-clause-step : goal.returns-then-left-eq0-clause-step
returns-then-left-eq0-clause-step g c = record {
  alike = c.stop_done-stopped.ensures.alike;
  idle = c.stop_done-stopped.ensures.idle;
  turn = λ s stamp b k room names live so_far.
      turn_used_up s stamp b c.args.machine.now c.stop_done-stopped.new.machine c.args.context k room c.args.left names (g.L.Listing.items c.args.retired.now) live so_far c.if-left-eq0.true c.stop_done-stopped.ensures.stopped;
  more = λ on. absurd cc;
  counted = omega (arith, c.stop_done-stopped.ensures.dropped);
  bound = omega (arith, c.stop_done-stopped.ensures.bound);
}

-- ---- the oldest entry retires

pub retire_going-requires-clause-going : goal.retire_going-requires-clause-going
retire_going-requires-clause-going g c = c.in-None.ensures.goes refl

-- ---- it stops the context

pub returns-in-Some-clause-step : goal.returns-in-Some-clause-step
returns-in-Some-clause-step g c = record {
  alike = alike_with c.args.machine.now c.stop-stopped.new.self c.args.context (stop_event (context_at c.args.machine.now c.args.context) c.in-Some.why) c.stop-stopped.ensures.stopped refl;
  idle = ap (λ (m : Machine). m.names) c.stop-stopped.ensures.stopped ∙ c.requires.idle;
  turn = λ s stamp b k room names live so_far.
      turn_stops s stamp b c.args.machine.now c.stop-stopped.new.self c.args.context k room c.args.left names (g.L.Listing.items c.args.retired.now) live so_far c.in-Some.why c.in-Some.ensures.stops c.stop-stopped.ensures.stopped;
  more = λ on. absurd cc;
  counted = omega (arith, c.stop-stopped.ensures.dropped);
  bound = omega (arith, c.stop-stopped.ensures.bound);
}

-- ---- what the guess learns

pub returns-then-left-eq0-clause-trained : goal.returns-then-left-eq0-clause-trained
returns-then-left-eq0-clause-trained g c =
    learned_none g.G.Guess.after_learn c.args.machine.now c.stop_done-stopped.new.machine (g.L.Listing.items c.args.retired.now) c.args.guess.now
    (part_with c.args.machine.now c.stop_done-stopped.new.machine c.args.context (ended (context_at c.args.machine.now c.args.context)) c.stop_done-stopped.ensures.stopped (part_ended (context_at c.args.machine.now c.args.context)))

pub returns-in-Some-clause-trained : goal.returns-in-Some-clause-trained
returns-in-Some-clause-trained g c =
    learned_none g.G.Guess.after_learn c.args.machine.now c.stop-stopped.new.self (g.L.Listing.items c.args.retired.now) c.args.guess.now
    (part_with c.args.machine.now c.stop-stopped.new.self c.args.context (stop_event (context_at c.args.machine.now c.args.context) c.in-Some.why) c.stop-stopped.ensures.stopped (λ i lt. absurd (omega (arith, lt))))
