-- Numbers, optional numbers and pairs meet the laws of a join.
use Rattle.std.specs.Prelude.{◌≡◌, ℕ, max, Option, Some, None, refl}
use Rattle.std.proofs.Common.{arith, ap}
use Rattle.join_law.specs.Laws.{JoinLaws}
use Rattle.join_law.specs.Instances.{AlwaysKin, option_max, PairKin, pair_joined}

-- numbers, which join to the greater
pub number_laws : JoinLaws {J = ℕ} AlwaysKin max
number_laws = record {
  kin_self = λ x. tt;
  kin_back = λ x y h. tt;
  kin_along = λ x y z h k. tt;
  kin_joined = λ x y h. tt;
  idempotent = λ x. omega arith;
  commutative = λ x y h. omega arith;
  associative = λ x y z h k. omega arith;
}

-- optional numbers, law by law
option_idempotent : (x : Option ℕ) → option_max x x ≡ x
option_idempotent None = refl
option_idempotent (Some x) = ap Some (omega arith)

option_commutative : (x y : Option ℕ) → option_max x y ≡ option_max y x
option_commutative None None = refl
option_commutative None (Some y) = refl
option_commutative (Some x) None = refl
option_commutative (Some x) (Some y) = ap Some (omega arith)

option_associative : (x y z : Option ℕ) → option_max (option_max x y) z ≡ option_max x (option_max y z)
option_associative None y z = refl
option_associative (Some x) None z = refl
option_associative (Some x) (Some y) None = refl
option_associative (Some x) (Some y) (Some z) = ap Some (omega arith)

-- optional numbers, of which `None` is neutral
pub option_laws : JoinLaws AlwaysKin option_max
option_laws = record {
  kin_self = λ x. tt;
  kin_back = λ x y h. tt;
  kin_along = λ x y z h k. tt;
  kin_joined = λ x y h. tt;
  idempotent = option_idempotent;
  commutative = λ x y h. option_commutative x y;
  associative = λ x y z h k. option_associative x y z;
}

-- pairs of values that meet the laws
module _ {A B : Type 0} (kin_A : A → A → Type 0) (kin_B : B → B → Type 0) (joined_A : A → A → A) (joined_B : B → B → B) where
  pub pair_laws : JoinLaws kin_A joined_A → JoinLaws kin_B joined_B → JoinLaws (PairKin kin_A kin_B) (pair_joined joined_A joined_B)
  pair_laws a b = record {
    kin_self = λ x. (a.kin_self x.0, b.kin_self x.1);
    kin_back = λ x y h. (a.kin_back x.0 y.0 h.0, b.kin_back x.1 y.1 h.1);
    kin_along = λ x y z h k. (a.kin_along x.0 y.0 z.0 h.0 k.0, b.kin_along x.1 y.1 z.1 h.1 k.1);
    kin_joined = λ x y h. (a.kin_joined x.0 y.0 h.0, b.kin_joined x.1 y.1 h.1);
    idempotent = λ x. rw (a.idempotent x.0, b.idempotent x.1) refl;
    commutative = λ x y h. rw (a.commutative x.0 y.0 h.0, b.commutative x.1 y.1 h.1) refl;
    associative = λ x y z h k. rw (a.associative x.0 y.0 z.0 h.0 k.0, b.associative x.1 y.1 z.1 h.1 k.1) refl;
  }
