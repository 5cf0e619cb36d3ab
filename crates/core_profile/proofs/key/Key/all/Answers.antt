use Rattle.core_profile.proofs.Ascending.{keys_in_order}
use Rattle.core_profile.proofs.key.Key.all.Goals as goal

pub returns-clause-in_order : goal.returns-clause-in_order
returns-clause-in_order c = keys_in_order
