use Rattle.std.proofs.Common.{◌≡◌, ◌*◌, ◌%◌, arith, ap, ◌∙◌}
use Rattle.hart_step.specs.Values.{extended}
use Rattle.hart_step.proofs.effect.upper.Goals as goal

pub returns : goal.returns
returns c =
    let kept : c.value.result * 4096 % 4294967296 ≡ c.args.immediate * 4096 = omega arith in
    c.extended.ensures ∙ ap extended kept
