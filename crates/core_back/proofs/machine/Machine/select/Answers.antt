use Rattle.std.proofs.Common.{List, length, arith, refl, ap}
use Rattle.std.proofs.lemmas.List.{length-map}
use Rattle.issue_queue.specs.Views.{name_of}
use Rattle.core_view.specs.declared.note.EntryId.{EntryId}
use Rattle.core_context.specs.Steps.{IsRemarked}
use Rattle.core_back.proofs.Machines.{idle_names}
use Rattle.core_back.proofs.MachineIssues.{selected_machine, supplied_choice}
use Rattle.core_back.proofs.machine.Machine.select.Goals as goal

pub invariant_of-self : goal.invariant_of-self
invariant_of-self g c =
    let m = c.self.inside in
    let same : IsRemarked m.flow m.flow = record { flow = refl; waits = refl } in
    selected_machine m _ c.args.self.now m.flow m.flow c.self.view_is c.self.invariant c.requires.idle same c.hold_first.ensures.selected same (c.self.invariant.let_go (idle_names m c.args.self.now c.self.view_is c.requires.idle)) c.hold_first.ensures.flow
    refl refl refl refl refl refl refl refl

pub returns-clause-selected : goal.returns-clause-selected
returns-clause-selected g c = rw (← c.self.view_is) refl

pub returns-clause-choice : goal.returns-clause-choice
returns-clause-choice g c = supplied_choice c.self.inside c.args.self.now (g.O.Order.key_of c.args.order.now) c.args.width _ c.hold_first.new.self c.self.view_is c.self.invariant c.requires.idle c.hold_first.ensures.selected

pub returns-clause-most : goal.returns-clause-most
returns-clause-most g c =
    let s = c.hold_first.ensures.selected in
    omega (arith, s.at_most, ap (λ (names : List EntryId). length names) s.names, length-map s.chosen name_of)
