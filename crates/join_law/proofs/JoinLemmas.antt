-- Joins of lists: of one value, of two lists, of the same values.
use Rattle.std.proofs.Common.{◌≡◌, List, [], ◌∷◌, ◌++◌, Contains, sym, ◌∙◌, ap, subst, ⊎_elim, arith}
use Rattle.std.proofs.lemmas.List.Elements.{Contains-append_left, Contains-append_right, Contains-append_cases, Contains-push, Contains-push_cases}
use Rattle.join_law.specs.Laws.{JoinLaws}
use Rattle.join_law.specs.JoinOf.{IsWithin, AllKin, IsJoinOf, IsJoinOfSet, SameValues}

pub Contains-nil : {X : Type 0} (x : X) → Contains [] x → ⊥
Contains-nil x h = omega (arith, h.1)

-- the one value of a list
pub Contains-one : {X : Type 0} (x y : X) → Contains (x ∷ []) y → x ≡ y
Contains-one x y h = ⊎_elim (λ none. absurd (Contains-nil y none)) (λ e. e) (Contains-push_cases [] x y h)

-- the first value of a list
pub Contains-head : {X : Type 0} (x : X) (xs : List X) → Contains (x ∷ xs) x
Contains-head x xs = Contains-append_left (x ∷ []) xs x (Contains-push [] x)

pub SameValues-back : {X : Type 0} (xs ys : List X) → SameValues xs ys → SameValues ys xs
SameValues-back xs ys same = record { there = same.back; back = same.there }

module _ {J : Type 0} {is_kin : J → J → Type 0} {joined : J → J → J} (laws : JoinLaws is_kin joined) where
  pub within_along : (x y z : J) → IsWithin is_kin joined x y → IsWithin is_kin joined y z → IsWithin is_kin joined x z
  within_along x y z h k = (
    laws.kin_along x y z h.0 k.0,
    ap (joined x) (sym k.1) ∙ sym (laws.associative x y z h.0 k.0) ∙ ap (λ v. joined v z) h.1 ∙ k.1,
  )

  pub left_within : (x y : J) → is_kin x y → IsWithin is_kin joined x (joined x y)
  left_within x y h = (
    laws.kin_joined x y h,
    sym (laws.associative x x y (laws.kin_self x) h) ∙ ap (λ v. joined v y) (laws.idempotent x),
  )

  pub right_within : (x y : J) → is_kin x y → IsWithin is_kin joined y (joined x y)
  right_within x y h =
      subst (IsWithin is_kin joined y) (laws.commutative y x (laws.kin_back x y h)) (left_within y x (laws.kin_back x y h))

  pub joined_within : (x y u : J) → is_kin x y → IsWithin is_kin joined x u → IsWithin is_kin joined y u → IsWithin is_kin joined (joined x y) u
  joined_within x y u h p q = (
    laws.kin_along (joined x y) x u (laws.kin_back x (joined x y) (laws.kin_joined x y h)) p.0,
    laws.associative x y u h q.0 ∙ ap (joined x) q.1 ∙ p.1,
  )

  -- two joins of the same values are one
  pub join_is_one : (xs ys : List J) (r s : J) → SameValues xs ys → IsJoinOf is_kin joined xs r → IsJoinOf is_kin joined ys s → r ≡ s
  join_is_one xs ys r s same p q =
      let r_within = p.least s (λ x h. q.above x (same.there x h)) in
      let s_within = q.least r (λ x h. p.above x (same.back x h)) in
      sym s_within.1 ∙ laws.commutative s r s_within.0 ∙ r_within.1

  -- a list of the same values has the same join
  pub IsJoinOf-same : (xs ys : List J) (r : J) → SameValues xs ys → IsJoinOf is_kin joined xs r → IsJoinOf is_kin joined ys r
  IsJoinOf-same xs ys r same p = record {
    above = λ x h. p.above x (same.back x h);
    least = λ u all. p.least u (λ x h. all x (same.there x h));
  }

  -- the join of a list is that of its set of values
  pub IsJoinOfSet-join : (xs : List J) (r : J) → IsJoinOf is_kin joined xs r → IsJoinOfSet is_kin joined xs r
  IsJoinOfSet-join xs r p ys same s = (
    λ q. join_is_one ys xs s r (SameValues-back xs ys same) q p,
    λ e. subst (IsJoinOf is_kin joined ys) (sym e) (IsJoinOf-same xs ys r same p),
  )

  -- one value is its own join
  pub IsJoinOf-one : (x : J) → IsJoinOf is_kin joined (x ∷ []) x
  IsJoinOf-one x = record {
    above = λ y h. subst (λ v. IsWithin is_kin joined v x) (Contains-one x y h) (laws.kin_self x, laws.idempotent x);
    least = λ u h. h x (Contains-push [] x);
  }

  -- the joins of two lists make the join of both
  pub IsJoinOf-append : (xs ys : List J) (r s : J) → is_kin r s → IsJoinOf is_kin joined xs r → IsJoinOf is_kin joined ys s → IsJoinOf is_kin joined (xs ++ ys) (joined r s)
  IsJoinOf-append xs ys r s h p q = record {
    above = λ x c. ⊎_elim
        (λ a. within_along x r (joined r s) (p.above x a) (left_within r s h))
        (λ b. within_along x s (joined r s) (q.above x b) (right_within r s h))
        (Contains-append_cases xs ys x c);
    least = λ u all. joined_within r s u h
        (p.least u (λ x a. all x (Contains-append_left xs ys x a)))
        (q.least u (λ x b. all x (Contains-append_right xs ys x b)));
  }

  -- the parts of a list of kin are lists of kin
  pub all_kin_left : (xs ys : List J) → AllKin is_kin (xs ++ ys) → AllKin is_kin xs
  all_kin_left xs ys h x y a b = h x y (Contains-append_left xs ys x a) (Contains-append_left xs ys y b)

  pub all_kin_right : (xs ys : List J) → AllKin is_kin (xs ++ ys) → AllKin is_kin ys
  all_kin_right xs ys h x y a b = h x y (Contains-append_right xs ys x a) (Contains-append_right xs ys y b)

  -- the joins of two lists of kin are kin, where each list has a value
  pub joins_are_kin : (xs ys : List J) (x y r s : J) → Contains xs x → Contains ys y → AllKin is_kin (xs ++ ys) → IsJoinOf is_kin joined xs r → IsJoinOf is_kin joined ys s → is_kin r s
  joins_are_kin xs ys x y r s in_xs in_ys all p q =
      let x_kin_r = (p.above x in_xs).0 in
      let y_kin_s = (q.above y in_ys).0 in
      let x_kin_y = all x y (Contains-append_left xs ys x in_xs) (Contains-append_right xs ys y in_ys) in
      laws.kin_along r x s (laws.kin_back x r x_kin_r) (laws.kin_along x y s x_kin_y y_kin_s)
