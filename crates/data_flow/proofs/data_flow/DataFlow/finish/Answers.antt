use Rattle.std.proofs.Common.{◌<◌, get_or, arith}
use Rattle.data_flow.specs.Flow.{lane, with_lane, with_result}
use Rattle.data_flow.proofs.Places.{here}
use Rattle.data_flow.proofs.Sources.{read_at}
use Rattle.data_flow.proofs.Steps.{Leaves, result_register, has_one, has_masked, finish_masked}
use Rattle.data_flow.proofs.data_flow.DataFlow.finish.Given.{Over}
use Rattle.data_flow.proofs.data_flow.DataFlow.finish.Goals as goal
use Rattle.data_flow.proofs.data_flow.DataFlow.finish.Goals.{After-wake}

pub at-renamed-requires : goal.at-renamed-requires
at-renamed-requires g c =
    let h = here c.self.inside c.args.self.now c.args.context c.index.result c.index-self-index.result c.self.view_is c.self.invariant c.index.ensures.value c.index.ensures.bound in
    omega (arith, h.count, c.requires)

pub write_masked-register-requires : goal.write_masked-register-requires
write_masked-register-requires g c =
    let h = here c.self.inside c.args.self.now c.args.context c.index.result c.index-self-index.result c.self.view_is c.self.invariant c.index.ensures.value c.index.ensures.bound in
    let found = get_or c.self.inside.renamed c.index.result c.index-self-index.result in
    let at = read_at found c.args.place c.at-renamed.result c.at-renamed.ensures in
    let s = c.at-renamed.result in
    let has = has_masked s.name c.result_mask-mask.result c.result_mask-mask.ensures.none in
    let register = λ (some : 0 < c.result_mask-mask.result). result_register c.self.inside c.args.self.now c.args.context c.index.result c.args.place found s c.self.invariant h at (has some) in
    record { register = λ some. (c.result_mask-mask.ensures.all (has_one s.name (has some)), (register some).above, (register some).in_range) }

leaves : (g : Over) (c : After-wake g) → Leaves c.write_masked-register.new.self c.self.inside.renamed c.wake.new.self (with_lane c.args.self.now c.args.context (with_result (lane c.args.self.now c.args.context) c.args.place c.args.value))
leaves g c =
    let h = here c.self.inside c.args.self.now c.args.context c.index.result c.index-self-index.result c.self.view_is c.self.invariant c.index.ensures.value c.index.ensures.bound in
    let found = get_or c.self.inside.renamed c.index.result c.index-self-index.result in
    let at = read_at found c.args.place c.at-renamed.result c.at-renamed.ensures in
    finish_masked c.self.inside c.args.self.now c.args.context c.index.result c.args.place c.args.value found c.at-renamed.result c.write_masked-register.new.self c.wake.new.self c.write_masked-register.result c.result_mask-mask.result
    c.self.view_is c.self.invariant h at c.result_mask-mask.ensures.none (λ some. omega (arith, c.result_mask-mask.ensures.all some)) c.write_masked-register.ensures.written c.write_masked-register.ensures.there c.write_masked-register.ensures.same c.write_masked-register.ensures.valued c.wake.ensures.entries

pub invariant_of-self : goal.invariant_of-self
invariant_of-self g c =
    let k = leaves g (goal.at.invariant_of-self g c).After-wake in
    record { file = c.write_masked-register.ensures.file; tied = k.tied; waiting = k.waiting }

pub returns : goal.returns
returns g c = (leaves g (goal.at.returns g c).After-wake).shows
