use Rattle.std.proofs.Common.{◌≡◌, ◌<◌, false, not, map, length, refl, ap, ◌∙◌}
use Rattle.std.specs.Prelude.{filter}
use Rattle.data_flow.specs.Flow.{Flow}
use Rattle.core_back.specs.Shown.{marked_among}
use Rattle.core_back.proofs.MachineIssues.{given_machine}
use Rattle.core_back.proofs.machine.Machine.give_back.Goals as goal

pub invariant_of-self : goal.invariant_of-self
invariant_of-self g c =
    let m = c.self.inside in
    let some : 0 < length m.selected = rw (← c.self.view_is) at c.requires in
    let is : c.drop_held.new.self ≡ record m.flow { waiters = filter (λ v. not v.held) (map (marked_among m.selected false) m.flow.waiters) } =
    c.drop_held.ensures ∙ ap (λ (f : Flow). let g : Flow = record f { waiters = filter (λ v. not v.held) f.waiters } in g) c.mark.ensures in
    given_machine m _ c.args.self.now c.self.view_is c.self.invariant some is refl refl c.clear.ensures refl refl refl refl refl

pub returns : goal.returns
returns g c = rw (c.clear.ensures, ← c.self.view_is) refl
