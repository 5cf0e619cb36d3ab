use Rattle.std.proofs.Common.{ap, ◌∙◌, arith}
use Rattle.core_profile.specs.declared.profile.Profile.{Profile}
use Rattle.core_back.proofs.retiring.retire_width.Goals as goal

pub returns-clause-value : goal.returns-clause-value
returns-clause-value g c = c.from.ensures ∙ ap (λ (p : Profile). p.retire_width) c.profile.ensures

pub returns-clause-bound : goal.returns-clause-bound
returns-clause-bound g c = let most = c.profile.result.retire_width_in_range.1 in omega (arith, most, c.from.ensures)
