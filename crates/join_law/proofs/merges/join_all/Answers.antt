use Rattle.std.proofs.Common.{◌∷◌}
use Rattle.join_law.proofs.JoinLemmas.{IsJoinOfSet-join}
use Rattle.join_law.proofs.merges.join_all.Goals as goal

pub returns-clause-set_alone : goal.returns-clause-set_alone
returns-clause-set_alone g c = IsJoinOfSet-join g.met.J.Join.laws (c.args.first ∷ c.args.others.items) _ c.join_each.ensures
