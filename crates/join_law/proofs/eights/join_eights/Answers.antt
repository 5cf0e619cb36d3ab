use Rattle.join_law.proofs.EightPlaces.{IsJoinOf-place}
use Rattle.join_law.proofs.eights.join_eights.Goals as goal

pub join_all-requires : goal.join_all-requires
join_all-requires g c = c.requires

pub returns : goal.returns
returns g c = IsJoinOf-place g.J.Join.is_kin g.J.Join.joined _ _ c.join_all.ensures.joined
