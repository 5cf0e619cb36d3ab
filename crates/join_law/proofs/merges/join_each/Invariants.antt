use Rattle.std.proofs.Common.{◌∷◌}
use Rattle.join_law.specs.JoinOf.{IsJoinOf}
use Rattle.join_law.proofs.merges.join_each.Given as goal

-- the join of the first and of those that were taken
abbrev pub invariant-loop-value : goal.invariant-loop-value
invariant-loop-value g l =
    IsJoinOf g.J.Join.is_kin g.J.Join.joined (l.fn.first ∷ l.yielded) l.total
