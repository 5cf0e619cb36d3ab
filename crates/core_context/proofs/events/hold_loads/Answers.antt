use Rattle.std.proofs.Common.{◌<◌, ◌∙◌, ap, subst, length, arith}
use Rattle.std.specs.Prelude.{MatchOption}
use Rattle.flight.specs.Marked.{is_waiting_load}
use Rattle.flight.specs.Flights.{NoneFrom, IsNext}
use Rattle.data_flow.specs.Flow.{Lane}
use Rattle.core_context.proofs.HeldLoads.{remarked_lane, held_first, held_next, held_skip, held_all, none_completed_held}
use Rattle.core_context.proofs.WaiterMarks.{remark_none}
use Rattle.std.proofs.lemmas.Bool.{and_parts}
use Rattle.core_view.specs.Flight.{is_queued}
use Rattle.core_view.specs.Operations.{is_load}
use Rattle.core_view.specs.View.{entry_at}
use Rattle.core_context.proofs.Waiting.{queued_stage}
use Rattle.core_context.proofs.events.hold_loads.Goals as goal

pub loop-turn-init : goal.loop-turn-init
loop-turn-init g c = record { below = held_first c.args.flow.now c.args.context c.args.track.now c.requires.let_go; past = omega arith; within = omega arith }

pub hold_load-requires-clause-nodes : goal.hold_load-requires-clause-nodes
hold_load-requires-clause-nodes g c = ap (λ (l : Lane). length l.nodes) (remarked_lane c.args.flow.now c.loop-turn.flow c.args.context c.loop-turn.invariant.below.flow) ∙ c.requires.nodes

pub hold_load-requires-clause-let_go : goal.hold_load-requires-clause-let_go
hold_load-requires-clause-let_go g c = let next = c.in-Some.ensures.next in c.loop-turn.invariant.below.rest c.in-Some.place next.after next.within

pub loop-turn-preserved : goal.loop-turn-preserved
loop-turn-preserved g c =
    let next = c.in-Some.ensures.next in
    let renamed : c.in-Some.place < c.args.track.now.renamed = c.in-Some.ensures.renamed in
    let here = held_skip c.args.flow.now c.loop-turn.flow c.args.context c.args.track.now c.loop-turn.from c.in-Some.place c.loop-turn.invariant.below next.after next.first in
    record {
      below = held_next c.args.flow.now c.loop-turn.flow c.hold_load.new.flow c.args.context c.args.track.now c.in-Some.place here next.within (c.requires.answered c.in-Some.place renamed).growing
          c.hold_load.ensures.flow (λ stage. c.hold_load.ensures.held) c.hold_load.ensures.others;
      past = let after = next.after in omega (arith, after, c.loop-turn.invariant.past);
      within = omega (arith, renamed);
    }

pub returns-in_default-clause-held : goal.returns-in_default-clause-held
returns-in_default-clause-held g c =
    let t = c.args.track.now in
    let none : NoneFrom is_waiting_load t.context.flight c.loop-turn.from = subst (λ o. MatchOption o (NoneFrom is_waiting_load t.context.flight c.loop-turn.from) (λ place. IsNext is_waiting_load t.context.flight c.loop-turn.from place)) c.in_default.is c.next_queued_load.ensures.next in
    held_all c.args.flow.now c.loop-turn.flow c.args.context t t.renamed
    (held_skip c.args.flow.now c.loop-turn.flow c.args.context t c.loop-turn.from t.renamed c.loop-turn.invariant.below c.loop-turn.invariant.within (λ i from lt. none i from)) (omega arith)

pub returns-in_default-clause-flow : goal.returns-in_default-clause-flow
returns-in_default-clause-flow g c = c.loop-turn.invariant.below.flow

pub returns-in_default-clause-others : goal.returns-in_default-clause-others
returns-in_default-clause-others g c = c.loop-turn.invariant.below.others

pub returns-clause-flow : goal.returns-clause-flow
returns-clause-flow g c = c.loop-turn.invariant.below.flow

pub returns-clause-held : goal.returns-clause-held
returns-clause-held g c = held_all c.args.flow.now c.loop-turn.flow c.args.context c.args.track.now c.loop-turn.from c.loop-turn.invariant.below (omega (arith, c.loop-turn-test.false, c.loop-turn.invariant.past, c.renamed_count-turn-end.ensures.value))

pub returns-clause-others : goal.returns-clause-others
returns-clause-others g c = c.loop-turn.invariant.below.others

pub returns-then-has_no_completed_store-clause-held : goal.returns-then-has_no_completed_store-clause-held
returns-then-has_no_completed_store-clause-held g c = none_completed_held c.args.flow.now c.args.context c.args.track.now c.requires.answered c.requires.let_go (c.has_no_completed_store.ensures c.if-has_no_completed_store.true)

pub returns-then-has_no_completed_store-clause-flow : goal.returns-then-has_no_completed_store-clause-flow
returns-then-has_no_completed_store-clause-flow g c = remark_none c.args.flow.now

pub hold_load-requires-clause-queued : goal.hold_load-requires-clause-queued
hold_load-requires-clause-queued g c =
    let e = entry_at c.args.track.now.context c.in-Some.place in
    queued_stage e.stage (and_parts (is_queued e.stage) (is_load e.operation) c.in-Some.ensures.next.passes).0
