-- What an eight ends as, once a `&mut` to one of its values has ended.
use Rattle.std.specs.Prelude.{ℕ, ◌==◌, if◌then◌else◌}
use Rattle.std.specs.Borrow.{Fml, RattleType, MutBor, Lends}
use Rattle.join_law.specs.declared.places.Eight.{Eight}
use Rattle.join_law.specs.contracts.places.Eight.{the_row}
use Rattle.join_law.specs.Eight.{place_of, eight_from}

-- the eight with another value at context i
abbrev pub with_place : {J : Type 0} → Eight J → ℕ → J → Eight J
with_place e i value = eight_from (λ j. if j == i then value else place_of e j)

-- the eight ends with the last value behind r at context i
abbrev pub LendsPlace : (R : RattleType) → MutBor (Eight R.Denot) → ℕ → MutBor R.Denot → Fml
LendsPlace R e i r = Lends (the_row R) R e r (with_place e.now i)
