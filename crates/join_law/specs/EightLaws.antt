-- Eights of values that meet the laws of a join meet them too.
use Rattle.std.specs.Prelude.{◌≡◌, ℕ, zero, suc, ◌<◌, refl}
use Rattle.std.proofs.Common.{arith, sym, ap, ◌∙◌}
use Rattle.join_law.specs.Laws.{JoinLaws}
use Rattle.join_law.specs.declared.places.Eight.{Eight}
use Rattle.join_law.specs.Eight.{place_of, eight_from, EightKin, eight_joined, same_places}

-- at a context the eight of a function has the function's value
pub place_of-eight_from : {J : Type 0} (f : ℕ → J) (i : ℕ) → i < 8 → place_of (eight_from f) i ≡ f i
place_of-eight_from f zero h = refl
place_of-eight_from f (suc zero) h = refl
place_of-eight_from f (suc (suc zero)) h = refl
place_of-eight_from f (suc (suc (suc zero))) h = refl
place_of-eight_from f (suc (suc (suc (suc zero)))) h = refl
place_of-eight_from f (suc (suc (suc (suc (suc zero))))) h = refl
place_of-eight_from f (suc (suc (suc (suc (suc (suc zero)))))) h = refl
place_of-eight_from f (suc (suc (suc (suc (suc (suc (suc zero))))))) h = refl
place_of-eight_from f (suc (suc (suc (suc (suc (suc (suc (suc n)))))))) h = absurd (omega arith)

module _ {J : Type 0} (is_kin : J → J → Type 0) (joined : J → J → J) where
  -- at a context the join of two eights has the join of their values there
  pub place_of-eight_joined : (x y : Eight J) (i : ℕ) → i < 8 → place_of (eight_joined joined x y) i ≡ joined (place_of x i) (place_of y i)
  place_of-eight_joined x y i h = place_of-eight_from (λ i. joined (place_of x i) (place_of y i)) i h

  -- the join of two eights
  abbrev both : Eight J → Eight J → Eight J
  both = eight_joined joined

  -- the laws at each context are those of eights
  pub eight_laws : JoinLaws is_kin joined → JoinLaws (EightKin is_kin) (eight_joined joined)
  eight_laws l = record {
    kin_self = λ x i h. l.kin_self (place_of x i);
    kin_back = λ x y k i h. l.kin_back (place_of x i) (place_of y i) (k i h);
    kin_along = λ x y z k m i h. l.kin_along (place_of x i) (place_of y i) (place_of z i) (k i h) (m i h);
    kin_joined = λ x y k i h. rw (place_of-eight_joined x y i h) (l.kin_joined (place_of x i) (place_of y i) (k i h));
    idempotent = λ x. same_places (both x x) x (λ i h. place_of-eight_joined x x i h ∙ l.idempotent (place_of x i));
    commutative = λ x y k. same_places (both x y) (both y x) (λ i h.
        place_of-eight_joined x y i h ∙ l.commutative (place_of x i) (place_of y i) (k i h) ∙ sym (place_of-eight_joined y x i h));
    associative = λ x y z k m. same_places (both (both x y) z) (both x (both y z)) (λ i h.
        place_of-eight_joined (both x y) z i h
        ∙ ap (λ v. joined v (place_of z i)) (place_of-eight_joined x y i h)
        ∙ l.associative (place_of x i) (place_of y i) (place_of z i) (k i h) (m i h)
        ∙ ap (joined (place_of x i)) (sym (place_of-eight_joined y z i h))
        ∙ sym (place_of-eight_joined x (both y z) i h));
  }
