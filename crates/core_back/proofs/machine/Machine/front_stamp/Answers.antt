use Rattle.std.proofs.Common.{◌<◌, ◌+◌, ◌^◌, ◌∙◌, ap, sym, subst, refl, arith, Option, ℕ}
use Rattle.std.specs.Prelude.{IfSome, option_map}
use Rattle.core_view.specs.declared.entry.Entry.{Entry}
use Rattle.core_back.specs.Machine.{Machine}
use Rattle.core_back.proofs.Machines.{at_context}
use Rattle.core_back.proofs.Renamable.{has_oldest, front_below}
use Rattle.core_back.proofs.machine.Machine.front_stamp.Goals as goal

pub returns-clause-value : goal.returns-clause-value
returns-clause-value g c =
    let h = at_context c.self.inside c.args.self.now c.args.context c.index.result c.index-track.result.now c.self.view_is c.self.invariant (omega (arith, c.index.ensures)) c.index.ensures.value c.index-track.ensures in
    let front = has_oldest c.self.inside c.args.self.now c.args.context c.index-track.result.now c.self.view_is h in
    c.front_stamp.ensures ∙ ap (λ (o : Option Entry). option_map (λ (e : Entry). e.stamp) o) (sym front.oldest)

pub returns-clause-bound : goal.returns-clause-bound
returns-clause-bound g c =
    let h = at_context c.self.inside c.args.self.now c.args.context c.index.result c.index-track.result.now c.self.view_is c.self.invariant (omega (arith, c.index.ensures)) c.index.ensures.value c.index-track.ensures in
    let next = ap (λ (v : Machine). v.view.stamp) c.self.view_is in
    let fits : c.self.inside.stamp < 2 ^ 64 = omega (arith, next, c.next_stamp-next.ensures.value, c.next_stamp-next.ensures.bound) in
    subst (λ (o : Option ℕ). IfSome o (λ stamp. stamp + 1 < 2 ^ 64)) (sym c.front_stamp.ensures)
    (front_below c.self.inside c.index-track.result.now c.args.context c.args.self.now fits h _ refl)
