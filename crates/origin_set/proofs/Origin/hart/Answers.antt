use Rattle.std.proofs.Common.{refl, ◌∙◌}
use Rattle.origin_set.proofs.Starting.{started}
use Rattle.origin_set.proofs.Origin.hart.Goals as goal

pub returns-in-Ok-clause-ok : goal.returns-in-Ok-clause-ok
returns-in-Ok-clause-ok g c = c.first_hart.ensures ∙ started _ _ _ _ _ _ c.in-Ok.ensures c.place.ensures c.self.view_is

pub returns-in-Err-clause-err : goal.returns-in-Err-clause-err
returns-in-Err-clause-err g c = refl
