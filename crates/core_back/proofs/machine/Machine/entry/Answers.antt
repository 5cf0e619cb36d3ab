use Rattle.std.proofs.Common.{ap, ◌∙◌, arith}
use Rattle.std.specs.Prelude.{slice_get}
use Rattle.core_view.specs.View.{Context}
use Rattle.core_back.proofs.Machines.{at_context}
use Rattle.core_back.proofs.machine.Machine.entry.Goals as goal

pub returns : goal.returns
returns g c =
    let h = at_context c.self.inside c.args.self.now c.args.context c.index.result c.index-track.result.now c.self.view_is c.self.invariant (omega (arith, c.index.ensures)) c.index.ensures.value c.index-track.ensures in
    c.copied.ensures ∙ c.entry.ensures ∙ ap (λ (x : Context). slice_get x.flight c.args.place) h.context
