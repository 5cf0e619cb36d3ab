use Rattle.std.proofs.Common.{◌∙◌, arith}
use Rattle.core_back.specs.Machine.{context_at}
use Rattle.core_context.proofs.Laws.{oldest_waiting}
use Rattle.core_back.proofs.Machines.{all_live}
use Rattle.core_back.proofs.Renamable.{idle_waiting}
use Rattle.core_back.proofs.machine.Machine.oldest_place.Goals as goal

pub returns : goal.returns
returns g c =
    let live = all_live c.self.inside c.args.self.now c.self.view_is c.self.invariant c.args.context (omega arith) in
    c.oldest_place.ensures ∙ oldest_waiting c.self.inside.flow (λ d. (context_at c.args.self.now d).flight) c.args.context 0 c.self.invariant.contexts (idle_waiting c.self.inside c.args.self.now c.self.view_is c.self.invariant c.requires) (omega arith) live.flight.growing
