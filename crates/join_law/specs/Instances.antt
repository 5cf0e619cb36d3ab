-- The joins of numbers, of optional numbers and of pairs.
use Rattle.std.specs.Prelude.{ℕ, max, Option, Some, None, ⊤}

-- any two values are kin
abbrev pub AlwaysKin : {J : Type 0} → J → J → Type 0
AlwaysKin x y = ⊤

-- the greater of the numbers that are there; `None` is neutral
abbrev pub option_max : Option ℕ → Option ℕ → Option ℕ
option_max None y = y
option_max (Some x) None = Some x
option_max (Some x) (Some y) = Some (max x y)

-- both parts are kin
abbrev pub PairKin : {A B : Type 0} → (A → A → Type 0) → (B → B → Type 0) → A × B → A × B → Type 0
PairKin kin_A kin_B p q = kin_A p.0 q.0 × kin_B p.1 q.1

-- each part is joined
abbrev pub pair_joined : {A B : Type 0} → (A → A → A) → (B → B → B) → A × B → A × B → A × B
pair_joined joined_A joined_B p q = (joined_A p.0 q.0, joined_B p.1 q.1)
