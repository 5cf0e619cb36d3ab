use Rattle.std.proofs.Common.{◌≡◌, ℕ, List, length, subst, arith, refl, ap}
use Rattle.std.proofs.lemmas.List.{length-map}
use Rattle.std.specs.Prelude.{◌==◌, ◌&&◌, not}
use Rattle.word_mask.specs.Mask.{has}
use Rattle.issue_queue.specs.Views.{name_of}
use Rattle.core_view.specs.declared.note.EntryId.{EntryId}
use Rattle.core_context.specs.Steps.{IsRemarked}
use Rattle.core_context.proofs.Laws.{core_answered, remarked_twice, released_remarked, released_all}
use Rattle.core_back.proofs.HeldNames.{held_remarked}
use Rattle.core_back.proofs.MachineIssues.{held_first, context_next, held_nodes, held_next, selected_machine, selected_shown, selected_choice}
use Rattle.core_back.proofs.machine.Machine.select_clear.Goals as goal

pub loop-left-init : goal.loop-left-init
loop-left-init g c = record {
  machine = c.self.inside;
  shows = c.self.view_is;
  ok = c.self.invariant;
  so_far = held_first c.self.inside _ c.args.self.now c.contexts_with_ready_load-left.result c.self.view_is c.self.invariant c.requires.idle refl c.contexts_with_ready_load-left.ensures.known c.contexts_with_ready_load-left.ensures.lacking refl refl refl refl refl refl refl;
}

pub first_context-context-requires-clause-known : goal.first_context-context-requires-clause-known
first_context-context-requires-clause-known g c = c.loop-left.invariant.so_far.known

pub hold_loads-requires-clause-nodes : goal.hold_loads-requires-clause-nodes
hold_loads-requires-clause-nodes g c =
    let h = context_next c.loop-left.invariant.machine c.loop-left.self-inside c.args.self.now c.loop-left.left c.first_context-context.result c.index.result c.index-track.result.now c.loop-left.invariant.shows c.loop-left.invariant.ok c.loop-left.invariant.so_far c.first_context-context.ensures c.index.ensures.value c.index-track.ensures in
    held_nodes c.loop-left.invariant.machine c.loop-left.self-inside c.args.self.now c.loop-left.left c.first_context-context.result c.index-track.result.now h c.loop-left.invariant.so_far

pub hold_loads-requires-clause-answered : goal.hold_loads-requires-clause-answered
hold_loads-requires-clause-answered g c i lt =
    let h = context_next c.loop-left.invariant.machine c.loop-left.self-inside c.args.self.now c.loop-left.left c.first_context-context.result c.index.result c.index-track.result.now c.loop-left.invariant.shows c.loop-left.invariant.ok c.loop-left.invariant.so_far c.first_context-context.ensures c.index.ensures.value c.index-track.ensures in
    core_answered h.core i (omega (arith, lt))

pub hold_loads-requires-clause-let_go : goal.hold_loads-requires-clause-let_go
hold_loads-requires-clause-let_go g c = c.loop-left.invariant.so_far.rest c.first_context-context.result c.first_context-context.ensures

pub loop-left-preserved : goal.loop-left-preserved
loop-left-preserved g c =
    let h = context_next c.loop-left.invariant.machine c.loop-left.self-inside c.args.self.now c.loop-left.left c.first_context-context.result c.index.result c.index-track.result.now c.loop-left.invariant.shows c.loop-left.invariant.ok c.loop-left.invariant.so_far c.first_context-context.ensures c.index.ensures.value c.index-track.ensures in
    let word = subst (λ i. (p : ℕ) → has c.cleared-left.result p ≡ (has c.loop-left.left p && not (p == i))) c.index-in-loop-left.ensures.value c.cleared-left.ensures.bits in
    record {
      machine = c.loop-left.invariant.machine;
      shows = c.loop-left.invariant.shows;
      ok = c.loop-left.invariant.ok;
      so_far = held_next c.loop-left.invariant.machine c.loop-left.self-inside _ c.args.self.now c.loop-left.left c.cleared-left.result c.first_context-context.result c.index-track.result.now h c.loop-left.invariant.so_far word
          c.hold_loads.ensures.flow c.hold_loads.ensures.held c.hold_loads.ensures.others refl refl refl refl refl refl refl;
    }

pub invariant_of-self : goal.invariant_of-self
invariant_of-self g c =
    let m = c.loop-left.invariant.machine in
    let so_far = c.loop-left.invariant.so_far in
    let h = c.loop-left.self-inside.flow in
    let held : IsRemarked m.flow c.hold_first.new.flow = remarked_twice m.flow h c.hold_first.new.flow so_far.flow (held_remarked c.hold_first.new.self h c.hold_first.new.flow c.hold_first.ensures.flow) in
    let freed : IsRemarked m.flow c.release.new.self = remarked_twice m.flow c.hold_first.new.flow c.release.new.self held (released_remarked c.hold_first.new.flow c.release.new.self c.release.ensures) in
    selected_machine m _ c.args.self.now h c.release.new.self c.loop-left.invariant.shows c.loop-left.invariant.ok c.requires.idle so_far.flow c.hold_first.ensures.selected freed (released_all c.hold_first.new.flow c.release.new.self c.release.ensures) c.mark.ensures
    so_far.origins so_far.tracks refl so_far.cycle so_far.stamp so_far.room so_far.profile so_far.fills

pub returns-clause-selected : goal.returns-clause-selected
returns-clause-selected g c = selected_shown c.loop-left.invariant.machine c.loop-left.self-inside c.args.self.now c.loop-left.left c.hold_first.new.self c.loop-left.invariant.shows c.loop-left.invariant.so_far

pub returns-clause-choice : goal.returns-clause-choice
returns-clause-choice g c =
    selected_choice c.loop-left.invariant.machine c.loop-left.self-inside c.args.self.now c.loop-left.left (g.O.Order.key_of c.args.order.now) c.args.width _ c.hold_first.new.self
    c.loop-left.invariant.shows c.loop-left.invariant.ok c.requires.idle c.loop-left.invariant.so_far c.loop-left-test.false c.hold_first.ensures.selected

pub returns-clause-most : goal.returns-clause-most
returns-clause-most g c =
    let s = c.hold_first.ensures.selected in
    omega (arith, s.at_most, ap (λ (names : List EntryId). length names) s.names, length-map s.chosen name_of)
