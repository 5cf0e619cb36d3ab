-- Lists whose names come one after another in byte order.
use Rattle.std.proofs.Common.{◌≡◌, ℕ, suc, Bool, true, false, not, List, [], ◌∷◌, get_or, cond, Option, Some, None, option_map, Less, Equal, refl, sym, subst, ◌∙◌, arith}
use Rattle.std.specs.Prelude.{All, AllPairs, Contains, find}
use Rattle.std.specs.Cmp.{tied_itself}
use Rattle.std.proofs.lemmas.Cmp.{nat_list_cmp_total}
use Rattle.std.proofs.lemmas.List.Elements.{All-cons, All-contains}
use Rattle.std.proofs.lemmas.List.Kept.{AllPairs-cons}
use Rattle.core_profile.specs.declared.key.Key.{Key}
use Rattle.core_profile.specs.declared.fields.ProfileFields.{ProfileFields}
use Rattle.core_profile.specs.Fields.{IsFirstOutside, first_outside, numbers}
use Rattle.core_profile.specs.Tables.{AreInOrder, IsBefore, allows, keys, name_of, range_of}

not_before_itself : (name : List ℕ) → IsBefore name name → ⊥
not_before_itself name less = let both : Less ≡ Equal = sym less ∙ tied_itself nat_list_cmp_total name in absurd cc

module _ {X : Type 0} (name : X → List ℕ) where
  -- each name comes before the next
  abbrev pub AscendsFrom : X → List X → Type 0
  AscendsFrom x [] = Unit {0}
  AscendsFrom x (y ∷ ys) = IsBefore (name x) (name y) × AscendsFrom y ys

  abbrev pub Ascends : List X → Type 0
  Ascends [] = Unit {0}
  Ascends (x ∷ xs) = AscendsFrom x xs

  after_first : (x : X) (xs : List X) → AscendsFrom x xs → Ascends xs
  after_first x [] h = tt
  after_first x (y ∷ ys) h = h.1

  all_after : (x : X) (xs : List X) → AscendsFrom x xs → All (λ y. IsBefore (name x) (name y)) xs
  all_after x [] h = λ i d lt. absurd (omega arith)
  all_after x (y ∷ ys) h =
      All-cons (λ z. IsBefore (name x) (name z)) y ys h.0 (λ i d lt. nat_list_cmp_total.trans (name x) (name y) (name (get_or ys i d)) h.0 (all_after y ys h.1 i d lt))

  pub pairs_in_order : (xs : List X) → Ascends xs → AllPairs (λ x y. IsBefore (name x) (name y)) xs
  pairs_in_order [] h = λ i j d lt within. absurd (omega arith)
  pairs_in_order (x ∷ xs) h = AllPairs-cons (λ y z. IsBefore (name y) (name z)) x xs (all_after x xs h) (pairs_in_order xs (after_first x xs h))

  -- an element that passes a test, where none whose name comes before its name passes
  pub record IsFirstToPass (p : X → Bool) (xs : List X) (z : X) : Type 0 where
    pub here : Contains xs z
    pub passes : p z ≡ true
    pub first : All (λ y. IsBefore (name y) (name z) → p y ≡ false) xs

  head_passes : (p : X → Bool) (x : X) (xs : List X) → AscendsFrom x xs → p x ≡ true → IsFirstToPass p (x ∷ xs) x
  head_passes p x xs h q = record {
    here = (0, omega arith, refl);
    passes = q;
    first = All-cons (λ y. IsBefore (name y) (name x) → p y ≡ false) x xs (λ less. absurd (not_before_itself (name x) less)) (λ i d lt less. absurd (not_before_itself (name x) (nat_list_cmp_total.trans (name x) (name (get_or xs i d)) (name x) (all_after x xs h i d lt) less)));
  }

  later_passes : (p : X → Bool) (x : X) (xs : List X) (z : X) → p x ≡ false → IsFirstToPass p xs z → IsFirstToPass p (x ∷ xs) z
  later_passes p x xs z q r = record {
    here = (suc r.here.0, omega (arith, r.here.1), r.here.2);
    passes = r.passes;
    first = All-cons (λ y. IsBefore (name y) (name z) → p y ≡ false) x xs (λ less. q) r.first;
  }

  pub found_first : (p : X → Bool) (xs : List X) (z : X) → Ascends xs → find p xs ≡ Some z → IsFirstToPass p xs z
  found_first p [] z h e = absurd cc
  found_first p (x ∷ xs) z h e = by (p x) refl e (found_first p xs z (after_first x xs h))
    where
      by : (b : Bool) → p x ≡ b → cond b (Some x) (find p xs) ≡ Some z → (find p xs ≡ Some z → IsFirstToPass p xs z) → IsFirstToPass p (x ∷ xs) z
      by true q e more = let same : x ≡ z = cc in subst (IsFirstToPass p (x ∷ xs)) same (head_passes p x xs h q)
      by false q e more = later_passes p x xs z q (more e)

pub keys_in_order : AreInOrder keys
keys_in_order = pairs_in_order name_of keys (refl, (refl, (refl, (refl, (refl, (refl, (refl, (refl, (refl, (refl, (refl, (refl, (refl, (refl, (refl, (refl, (refl, tt)))))))))))))))))

not_true : (b : Bool) → not b ≡ true → b ≡ false
not_true true e = absurd cc
not_true false e = refl

not_false : (b : Bool) → not b ≡ false → b ≡ true
not_false true e = refl
not_false false e = absurd cc

abbrev is_outside : Key × ℕ → Bool
is_outside r = not (allows (range_of r.0) r.1)

pub outside_first : (f : ProfileFields) (k : Key) → first_outside f ≡ Some k → IsFirstOutside f k
outside_first f k h = by (find is_outside (numbers f)) refl h
  where
    by : (o : Option (Key × ℕ)) → find is_outside (numbers f) ≡ o → option_map (λ r. r.0) o ≡ Some k → IsFirstOutside f k
    by None q e = absurd cc
    by (Some r) q e =
        let same : r.0 ≡ k = cc in
        let found = found_first (λ (s : Key × ℕ). name_of s.0) is_outside (numbers f) r (refl, (refl, (refl, (refl, (refl, (refl, (refl, (refl, (refl, (refl, (refl, (refl, (refl, (refl, (refl, tt))))))))))))))) q in
        subst (IsFirstOutside f) same (record {
          number = r.1;
          here = found.here;
          outside = not_true (allows (range_of r.0) r.1) found.passes;
          first = λ j n less at. not_false (allows (range_of j) n) (All-contains (λ (s : Key × ℕ). IsBefore (name_of s.0) (name_of r.0) → is_outside s ≡ false) (numbers f) (j, n) found.first at less);
        })
