use Rattle.join_law.proofs.EightKinParts.{parts_are_kin}
use Rattle.join_law.proofs.places.EightJoin.kin.Goals as goal

pub returns : goal.returns
returns g c =
    let parts = parts_are_kin g.J.Join.is_kin g.J.Join.joined c.args.self.now c.args.other.now in
    (λ h. parts.0 (c.parts_kin.ensures.0 h), λ k. c.parts_kin.ensures.1 (parts.1 k))
