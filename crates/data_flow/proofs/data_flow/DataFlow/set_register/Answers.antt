use Rattle.std.proofs.Common.{◌<◌, arith}
use Rattle.data_flow.proofs.Steps.{set_leaves}
use Rattle.data_flow.proofs.data_flow.DataFlow.set_register.Goals as goal

pub invariant_of-self : goal.invariant_of-self
invariant_of-self g c =
    let lt : c.args.context < 8 = omega (arith, c.index-number.ensures.value, c.index-number.ensures.bound) in
    let k = set_leaves c.self.inside c.args.self.now c.args.context c.args.register c.index.result c.args.value c.set_committed.new.self c.self.view_is c.self.invariant lt c.index.ensures.same c.index.ensures.in_range c.set_committed.ensures.set in
    record { file = c.set_committed.ensures.file; tied = k.tied; waiting = k.waiting }

pub returns : goal.returns
returns g c =
    let lt : c.args.context < 8 = omega (arith, c.index-number.ensures.value, c.index-number.ensures.bound) in
    (set_leaves c.self.inside c.args.self.now c.args.context c.args.register c.index.result c.args.value c.set_committed.new.self c.self.view_is c.self.invariant lt c.index.ensures.same c.index.ensures.in_range c.set_committed.ensures.set).shows
