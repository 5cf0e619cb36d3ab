-- The join of marks is the furthest of them.
use Rattle.std.proofs.Common.{◌≡◌, ℕ, suc, ◌≤◌, ◌<◌, ◌⊎◌, ⊎_elim, List, [], ◌∷◌, map, Contains, sym, ap, ◌∙◌, subst, arith}
use Rattle.std.proofs.lemmas.List.Elements.{Contains-push, Contains-append_left, Contains-append_right, Contains-append_cases, Contains-push_cases}
use Rattle.checkpoint.specs.Best.{IsBest, AreBest}
use Rattle.checkpoint.specs.Further.{MarkKin, further, mark_laws, same_parts}
use Rattle.checkpoint.specs.MarkValue.{MarkValue}
use Rattle.join_law.specs.Eight.{place_of}
use Rattle.join_law.specs.JoinOf.{IsJoinOf, IsWithin}
use Rattle.join_law.specs.declared.places.Eight.{Eight}

Contains-nil : (x : MarkValue) → Contains [] x → ⊥
Contains-nil x h = omega (arith, h.1)

Contains-one : (x y : MarkValue) → Contains (x ∷ []) y → x ≡ y
Contains-one x y h = ⊎_elim (λ none. absurd (Contains-nil y none)) (λ e. e) (Contains-push_cases [] x y h)

count_of_same : (x y : MarkValue) → x ≡ y → x.count ≡ y.count
count_of_same x y e = ap (λ (mark : MarkValue). mark.count) e

-- a mark with the greatest count of a list
record IsGreatest (marks : List MarkValue) (m : MarkValue) : Type 0 where
  pub there : Contains marks m
  pub above : (x : MarkValue) → Contains marks x → x.count ≤ m.count

order : (k j : ℕ) → (k ≤ j) ⊎ (j < k)
order k j = grind arith

greatest : (m : MarkValue) (ms : List MarkValue) → (g : MarkValue) × IsGreatest (m ∷ ms) g
greatest m [] = (m, record { there = Contains-push [] m; above = λ x c. omega (arith, count_of_same m x (Contains-one m x c)) })
greatest m (n ∷ ms) =
    let r = greatest n ms in
    ⊎_elim {C = (g : MarkValue) × IsGreatest (m ∷ n ∷ ms) g}
    (λ (h : m.count ≤ r.0.count). (
      r.0,
      record {
        there = Contains-append_right (m ∷ []) (n ∷ ms) r.0 r.1.there;
        above = λ x c. ⊎_elim
            (λ here. omega (arith, h, count_of_same m x (Contains-one m x here)))
            (λ rest. r.1.above x rest)
            (Contains-append_cases (m ∷ []) (n ∷ ms) x c);
      },
    ))
    (λ (h : r.0.count < m.count). (
      m,
      record {
        there = Contains-append_left (m ∷ []) (n ∷ ms) m (Contains-push [] m);
        above = λ x c. ⊎_elim
            (λ here. omega (arith, count_of_same m x (Contains-one m x here)))
            (λ rest. omega (arith, h, r.1.above x rest))
            (Contains-append_cases (m ∷ []) (n ∷ ms) x c);
      },
    ))
    (order m.count r.0.count)

-- a kin mark of no greater count is within
below_within : (x y : MarkValue) → MarkKin x y → x.count ≤ y.count → IsWithin MarkKin further x y
below_within x y k h = (k, same_parts _ _ _ _ _ _ k.origin k.context (omega arith))

within_below : (x y : MarkValue) → IsWithin MarkKin further x y → x.count ≤ y.count
within_below x y w = omega (arith, count_of_same _ _ w.1)

-- marks within one are kin, and no mark is kin to all, so that the join is one of them
pub IsBest-join : (marks : List MarkValue) (r : MarkValue) → IsJoinOf MarkKin further marks r → IsBest marks r
IsBest-join [] r p =
    let other : MarkValue = record { origin = r.origin; context = suc r.context; count = 0 } in
    let within = p.least other (λ x c. absurd (Contains-nil x c)) in
    absurd (omega (arith, within.0.context))
IsBest-join (m ∷ ms) r p =
    let g = greatest m ms in
    let up = p.above g.0 g.1.there in
    let kin : (x : MarkValue) → Contains (m ∷ ms) x → MarkKin x g.0 = λ x c. mark_laws.kin_along x r g.0 (p.above x c).0 (mark_laws.kin_back g.0 r up.0) in
    let down = p.least g.0 (λ x c. below_within x g.0 (kin x c) (g.1.above x c)) in
    let same : g.0 ≡ r = sym down.1 ∙ mark_laws.commutative r g.0 down.0 ∙ up.1 in
    record {
      there = subst (Contains (m ∷ ms)) same g.1.there;
      greatest = λ x c _. within_below x r (p.above x c);
    }

-- the same at each place of eights
pub AreBest-join : (eights : List (Eight MarkValue)) (r : Eight MarkValue) → ((i : ℕ) → i < 8 → IsJoinOf MarkKin further (map (λ eight. place_of eight i) eights) (place_of r i)) → AreBest eights r
AreBest-join eights r joins i h = IsBest-join (map (λ eight. place_of eight i) eights) (place_of r i) (joins i h)
