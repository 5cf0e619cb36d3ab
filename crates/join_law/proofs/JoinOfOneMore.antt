-- The join of one more value of a list of kin.
use Rattle.std.proofs.Common.{◌≡◌, List, [], ◌∷◌, ◌++◌, Contains, ap, ◌∙◌}
use Rattle.std.specs.Iterator.{Yields}
use Rattle.std.proofs.lemmas.List.Elements.{Contains-append_right}
use Rattle.std.specs.Vec.Iter.{into_iter_items, into_iter_steps}
use Rattle.std.specs.declared.vec.IntoIter.{IntoIter}
use Rattle.join_law.specs.Laws.{JoinLaws}
use Rattle.join_law.specs.JoinOf.{AllKin, IsJoinOf}
use Rattle.join_law.proofs.JoinLemmas.{Contains-head, IsJoinOf-one, IsJoinOf-append}

-- what the iterator of a vector has given is a front of its items
pub taken_front : {X A : Type 0} (s : IntoIter X A) (xs : List X) (t : IntoIter X A) → Yields into_iter_steps s xs t → into_iter_items s ≡ xs ++ into_iter_items t
taken_front s [] t y = ap into_iter_items y
taken_front s (x ∷ xs) t y = y.1.0 ∙ ap (λ ys. x ∷ ys) (taken_front y.0 xs t y.2)

module _ {J : Type 0} {is_kin : J → J → Type 0} {joined : J → J → J} (laws : JoinLaws is_kin joined) (first : J) (all taken rest : List J) (value total : J) (made : all ≡ taken ++ value ∷ rest) (kin : AllKin is_kin (first ∷ all)) (so_far : IsJoinOf is_kin joined (first ∷ taken) total) where
  -- the next value is kin to the join so far
  pub next_kin : is_kin total value
  next_kin =
      let there : Contains (first ∷ all) value = rw made (Contains-append_right (first ∷ taken) (value ∷ rest) value (Contains-head value rest)) in
      let here : Contains (first ∷ taken) first = Contains-head first taken in
      let first_there : Contains (first ∷ all) first = Contains-head first all in
      laws.kin_along total first value (laws.kin_back first total (so_far.above first here).0) (kin first value first_there there)

  -- with the next value
  pub next_joined : IsJoinOf is_kin joined (first ∷ (taken ++ value ∷ [])) (joined total value)
  next_joined = IsJoinOf-append laws (first ∷ taken) (value ∷ []) total value next_kin so_far (IsJoinOf-one laws value)
