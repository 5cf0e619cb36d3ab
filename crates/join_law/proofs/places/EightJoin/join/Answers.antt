use Rattle.std.proofs.Common.{arith}
use Rattle.join_law.proofs.EightPlaces.{eight_is}
use Rattle.join_law.proofs.places.EightJoin.join.Goals as goal

pub join-requires : goal.join-requires
join-requires g c = c.requires 0 (omega arith)

pub join-requires-2 : goal.join-requires-2
join-requires-2 g c = c.requires 1 (omega arith)

pub join-requires-3 : goal.join-requires-3
join-requires-3 g c = c.requires 2 (omega arith)

pub join-requires-4 : goal.join-requires-4
join-requires-4 g c = c.requires 3 (omega arith)

pub join-requires-5 : goal.join-requires-5
join-requires-5 g c = c.requires 4 (omega arith)

pub join-requires-6 : goal.join-requires-6
join-requires-6 g c = c.requires 5 (omega arith)

pub join-requires-7 : goal.join-requires-7
join-requires-7 g c = c.requires 6 (omega arith)

-- the last by search, and not by the call's name, which an edit may take away
pub returns : goal.returns
returns g c =
    eight_is g.J.Join.joined c.args.self c.args.other _ c.join.ensures c.join-2.ensures c.join-3.ensures c.join-4.ensures c.join-5.ensures c.join-6.ensures c.join-7.ensures search
