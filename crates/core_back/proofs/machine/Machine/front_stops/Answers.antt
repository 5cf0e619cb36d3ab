use Rattle.std.proofs.Common.{ap, sym, ◌∙◌, arith, false, Option}
use Rattle.std.specs.Option.{option_map_or}
use Rattle.core_view.specs.declared.entry.Entry.{Entry}
use Rattle.core_view.specs.Operations.{stops_at_fetch}
use Rattle.core_back.proofs.Machines.{at_context}
use Rattle.core_back.proofs.Renamable.{has_oldest}
use Rattle.core_back.proofs.machine.Machine.front_stops.Goals as goal

pub returns : goal.returns
returns g c =
    let h = at_context c.self.inside c.args.self.now c.args.context c.index.result c.index-track.result.now c.self.view_is c.self.invariant (omega (arith, c.index.ensures)) c.index.ensures.value c.index-track.ensures in
    let front = has_oldest c.self.inside c.args.self.now c.args.context c.index-track.result.now c.self.view_is h in
    c.front_stops.ensures ∙ ap (λ (e : Option Entry). option_map_or (λ (f : Entry). stops_at_fetch f.operation) e false) (sym front.oldest)
