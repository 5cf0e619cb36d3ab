-- The join of eights is that of their places.
use Rattle.std.proofs.Common.{◌≡◌, ◌≢◌, ℕ, ◌<◌, true, false, cond, List, [], ◌∷◌, map, Contains, refl, sym, ap, ◌∙◌, subst, ⊎_elim}
use Rattle.std.proofs.lemmas.Bool.Decides.{eqb_tells}
use Rattle.std.proofs.Math.Dec.{eqb}
use Rattle.std.proofs.lemmas.List.Elements.{Contains-append_right, Contains-append_cases}
use Rattle.join_law.specs.JoinOf.{IsWithin, IsJoinOf}
use Rattle.join_law.specs.Eight.{place_of, eight_from, EightKin, eight_joined, same_places}
use Rattle.join_law.specs.EightLaws.{place_of-eight_from, place_of-eight_joined}
use Rattle.join_law.proofs.JoinLemmas.{Contains-nil, Contains-one, Contains-head}
use Rattle.join_law.proofs.Laws.{each_place}
use Rattle.join_law.specs.declared.places.Eight.{Eight}

-- a value of the list, as one of the mapped
pub Contains-map : {X Y : Type 0} (f : X → Y) (xs : List X) (x : X) → Contains xs x → Contains (map f xs) (f x)
Contains-map f [] x h = absurd (Contains-nil x h)
Contains-map f (y ∷ xs) x h =
    ⊎_elim
    (λ here. subst (λ z. Contains (f y ∷ map f xs) (f z)) (Contains-one y x here) (Contains-head (f y) (map f xs)))
    (λ there. Contains-append_right (f y ∷ []) (map f xs) (f x) (Contains-map f xs x there))
    (Contains-append_cases (y ∷ []) xs x h)

-- a mapped value is that of a value of the list
pub Contains-unmap : {X Y : Type 0} (f : X → Y) (xs : List X) (y : Y) → Contains (map f xs) y → (x : X) × Contains xs x × (f x ≡ y)
Contains-unmap f [] y h = absurd (Contains-nil y h)
Contains-unmap f (x ∷ xs) y h =
    ⊎_elim
    (λ here. (x, Contains-head x xs, Contains-one (f x) y here))
    (λ there. let r = Contains-unmap f xs y there in (r.0, Contains-append_right (x ∷ []) xs r.0 r.1, r.2))
    (Contains-append_cases (f x ∷ []) (map f xs) y h)

module _ {J : Type 0} (is_kin : J → J → Type 0) (joined : J → J → J) where
  -- an eight is within another where each place is
  within_from_places : (x y : Eight J) → ((j : ℕ) → j < 8 → IsWithin is_kin joined (place_of x j) (place_of y j)) → IsWithin (EightKin is_kin) (eight_joined joined) x y
  within_from_places x y w = (
    λ j h. (w j h).0,
    same_places (eight_joined joined x y) y (λ j h. place_of-eight_joined is_kin joined x y j h ∙ (w j h).1),
  )

  within_place : (x y : Eight J) → IsWithin (EightKin is_kin) (eight_joined joined) x y → (j : ℕ) → j < 8 → IsWithin is_kin joined (place_of x j) (place_of y j)
  within_place x y w j h =
      (w.0 j h, sym (place_of-eight_joined is_kin joined x y j h) ∙ ap (λ e. place_of e j) w.1)

  -- the value at a place of the join is the join of the values at that place
  pub IsJoinOf-place : (es : List (Eight J)) (r : Eight J) → IsJoinOf (EightKin is_kin) (eight_joined joined) es r → (i : ℕ) → i < 8 → IsJoinOf is_kin joined (map (λ e. place_of e i) es) (place_of r i)
  IsJoinOf-place es r p i h = record {
    above = λ x c. let e = Contains-unmap (λ e. place_of e i) es x c in
        subst (λ v. IsWithin is_kin joined v (place_of r i)) e.2 (within_place e.0 r (p.above e.0 e.1) i h);
    least = λ u all.
        let other : Eight J = eight_from (λ j. cond (eqb j i) u (place_of r j)) in
        let there : (j : ℕ) → j < 8 → place_of other j ≡ cond (eqb j i) u (place_of r j) = place_of-eight_from (λ j. cond (eqb j i) u (place_of r j)) in
        let within : IsWithin (EightKin is_kin) (eight_joined joined) r other = p.least other (λ e c. within_from_places e other (λ j k.
        rw (there j k) (⊎_elim
        (λ (same : (eqb j i ≡ true) × (j ≡ i)). rw (same.0, same.1) (all (place_of e i) (Contains-map (λ e. place_of e i) es e c)))
        (λ (apart : (eqb j i ≡ false) × (j ≢ i)). rw apart.0 (within_place e r (p.above e c) j k))
        (eqb_tells j i)))) in
        let here : place_of other i ≡ u = there i h ∙ ⊎_elim (λ (same : (eqb i i ≡ true) × (i ≡ i)). rw same.0 refl) (λ (apart : (eqb i i ≡ false) × (i ≢ i)). absurd (apart.1 refl)) (eqb_tells i i) in
        subst (IsWithin is_kin joined (place_of r i)) here (within_place r other within i h);
  }

-- an eight whose values are the joins of two others' is their join
pub eight_is : {J : Type 0} (joined : J → J → J) (x y e : Eight J) → e.c0 ≡ joined x.c0 y.c0 → e.c1 ≡ joined x.c1 y.c1 → e.c2 ≡ joined x.c2 y.c2 → e.c3 ≡ joined x.c3 y.c3 → e.c4 ≡ joined x.c4 y.c4 → e.c5 ≡ joined x.c5 y.c5 → e.c6 ≡ joined x.c6 y.c6 → e.c7 ≡ joined x.c7 y.c7 → e ≡ eight_joined joined x y
eight_is joined x y e p0 p1 p2 p3 p4 p5 p6 p7 = same_places e (eight_joined joined x y) (each_place (λ i. place_of e i ≡ place_of (eight_joined joined x y) i) p0 p1 p2 p3 p4 p5 p6 p7)
