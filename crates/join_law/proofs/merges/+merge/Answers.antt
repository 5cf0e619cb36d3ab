use Rattle.std.proofs.Common.{rules}
use Rattle.join_law.specs.Tree.{leaves}
use Rattle.join_law.specs.declared.merges.Tree.TheViews.{the_lemmas}
use Rattle.join_law.proofs.JoinLemmas.{all_kin_left, all_kin_right}
use Rattle.join_law.proofs.MergedTree.{sides_kin}
use Rattle.join_law.proofs.merges.+merge.Goals as goal

-- the leaves of each side are kin
pub merge-first-requires : goal.merge-first-requires
merge-first-requires g t c κs within = (
  search (rules, the_lemmas),
  (
    search rules,
    (
      search rules,
      rw c.into_inner.ensures (all_kin_left g.met.J.Join.laws (leaves c.in-Merge.left.value) (leaves c.in-Merge.right.value) (rw c.in-Merge.is at c.requires.kin)),
    ),
  ),
)

pub merge-second-requires : goal.merge-second-requires
merge-second-requires g t c κs within = (
  search (rules, the_lemmas),
  (
    search rules,
    (
      search rules,
      rw c.into_inner-in-Merge.ensures (all_kin_right g.met.J.Join.laws (leaves c.in-Merge.left.value) (leaves c.in-Merge.right.value) (rw c.in-Merge.is at c.requires.kin)),
    ),
  ),
)

-- so what they give is kin
pub join_two-requires : goal.join_two-requires
join_two-requires g t c =
    rw (c.merge-first.ensures, c.merge-second.ensures, c.into_inner.ensures, c.into_inner-in-Merge.ensures)
    (sides_kin g.met.J.Join.laws c.in-Merge.left.value c.in-Merge.right.value (rw c.in-Merge.is at c.requires.kin))
