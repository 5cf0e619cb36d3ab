-- Kin eights, context by context.
use Rattle.join_law.specs.declared.places.Eight.{Eight}

module _ {J : Type 0} (is_kin : J → J → Type 0) where
  -- `EightKin`, as the eight facts that a program tests one by one
  pub record PartsKin (x y : Eight J) : Type 0 where
    pub at_0 : is_kin x.c0 y.c0
    pub at_1 : is_kin x.c1 y.c1
    pub at_2 : is_kin x.c2 y.c2
    pub at_3 : is_kin x.c3 y.c3
    pub at_4 : is_kin x.c4 y.c4
    pub at_5 : is_kin x.c5 y.c5
    pub at_6 : is_kin x.c6 y.c6
    pub at_7 : is_kin x.c7 y.c7
