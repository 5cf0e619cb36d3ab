use Rattle.std.proofs.Common.{refl, ap, ◌∙◌}
use Rattle.std.specs.Prelude.{set}
use Rattle.std.specs.Simd.Lanes.{top}
use Rattle.fetch_policy.proofs.WithoutOne.{without_one}
use Rattle.fetch_policy.proofs.least.without.Goals as goal

pub returns : goal.returns
returns c = without_one (top 15) 65535 refl refl 65528 c.args.ranks c.index.result c.fits-ranks.0 c.index.ensures.bound ∙ ap (λ n. set c.args.ranks n 65528) c.index.ensures.value
