-- The laws of a join.
use Rattle.std.specs.Prelude.{◌≡◌}

-- Kin is an equivalence; a join is kin to its parts; among kin a join is idempotent, commutative and associative.
pub record JoinLaws {J : Type 0} (is_kin : J → J → Type 0) (joined : J → J → J) : Type 0 where
  pub kin_self : (x : J) → is_kin x x
  pub kin_back : (x y : J) → is_kin x y → is_kin y x
  pub kin_along : (x y z : J) → is_kin x y → is_kin y z → is_kin x z
  pub kin_joined : (x y : J) → is_kin x y → is_kin x (joined x y)
  pub idempotent : (x : J) → joined x x ≡ x
  pub commutative : (x y : J) → is_kin x y → joined x y ≡ joined y x
  pub associative : (x y z : J) → is_kin x y → is_kin y z → joined (joined x y) z ≡ joined x (joined y z)
