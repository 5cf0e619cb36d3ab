-- What the merges of a tree give is the join of its leaves.
use Rattle.std.proofs.Common.{◌≡◌, [], ◌++◌, Contains}
use Rattle.std.proofs.lemmas.List.Elements.{Contains-append_left}
use Rattle.join_law.specs.Laws.{JoinLaws}
use Rattle.join_law.specs.JoinOf.{AllKin, IsJoinOf, SameValues}
use Rattle.join_law.specs.Tree.{leaves, merged}
use Rattle.join_law.specs.declared.merges.Tree.{Tree, Leaf, Merge'}
use Rattle.join_law.proofs.JoinLemmas.{Contains-head, IsJoinOf-one, IsJoinOf-append, all_kin_left, all_kin_right, joins_are_kin, join_is_one}

-- a tree has a leaf
pub some_leaf : {J A : Type 0} (t : Tree J A) → (x : J) × Contains (leaves t) x
some_leaf (Leaf x) = (x, Contains-head x [])
some_leaf (Merge' p l q r) = let s = some_leaf l in (s.0, Contains-append_left (leaves l) (leaves r) s.0 s.1)

module _ {J : Type 0} {is_kin : J → J → Type 0} {joined : J → J → J} (laws : JoinLaws is_kin joined) where
  -- the joins of two trees whose leaves are kin are kin
  parts_kin : {A : Type 0} (l r : Tree J A) → AllKin is_kin (leaves l ++ leaves r) → IsJoinOf is_kin joined (leaves l) (merged joined l) → IsJoinOf is_kin joined (leaves r) (merged joined r) → is_kin (merged joined l) (merged joined r)
  parts_kin l r kin p q =
      let a = some_leaf l in
      let b = some_leaf r in
      joins_are_kin laws (leaves l) (leaves r) a.0 b.0 (merged joined l) (merged joined r) a.1 b.1 kin p q

  pub IsJoinOf-merged : {A : Type 0} (t : Tree J A) → AllKin is_kin (leaves t) → IsJoinOf is_kin joined (leaves t) (merged joined t)
  IsJoinOf-merged (Leaf x) kin = IsJoinOf-one laws x
  IsJoinOf-merged (Merge' m l n r) kin =
      let p = IsJoinOf-merged l (all_kin_left laws (leaves l) (leaves r) kin) in
      let q = IsJoinOf-merged r (all_kin_right laws (leaves l) (leaves r) kin) in
      IsJoinOf-append laws (leaves l) (leaves r) (merged joined l) (merged joined r) (parts_kin l r kin p q) p q

  -- so the two sides of a merge may be joined
  pub sides_kin : {A : Type 0} (l r : Tree J A) → AllKin is_kin (leaves l ++ leaves r) → is_kin (merged joined l) (merged joined r)
  sides_kin l r kin =
      parts_kin l r kin
      (IsJoinOf-merged l (all_kin_left laws (leaves l) (leaves r) kin))
      (IsJoinOf-merged r (all_kin_right laws (leaves l) (leaves r) kin))

  -- trees with the same leaves give the same value
  pub merged_alike : {A B : Type 0} (s : Tree J A) (t : Tree J B) → AllKin is_kin (leaves s) → SameValues (leaves s) (leaves t) → merged joined s ≡ merged joined t
  merged_alike s t kin same =
      join_is_one laws (leaves s) (leaves t) (merged joined s) (merged joined t) same
      (IsJoinOf-merged s kin)
      (IsJoinOf-merged t (λ x y a b. kin x y (same.back x a) (same.back y b)))
