use Rattle.std.proofs.Common.{ap, drop, ◌∙◌, arith}
use Rattle.std.specs.Prelude.{is_some}
use Rattle.core_view.specs.View.{Context}
use Rattle.core_context.specs.Heads.{first_done}
use Rattle.core_back.proofs.Machines.{at_context}
use Rattle.core_back.proofs.machine.Machine.is_next_done.Goals as goal

pub returns : goal.returns
returns g c =
    let h = at_context c.self.inside c.args.self.now c.args.context c.index.result c.index-track.result.now c.self.view_is c.self.invariant (omega (arith, c.index.ensures)) c.index.ensures.value c.index-track.ensures in
    c.is_next_done.ensures ∙ ap (λ (x : Context). is_some (first_done (drop 1 x.flight))) h.context
