use Rattle.std.proofs.Common.{refl}
use Rattle.core_profile.proofs.Ascending.{outside_first}
use Rattle.core_profile.proofs.profile.Profile.checked.Goals as goal

pub returns-in-Err : goal.returns-in-Err
returns-in-Err c = (c.in-Err.key, outside_first c.args.fields c.in-Err.key c.in-Err.ensures.err, refl)
