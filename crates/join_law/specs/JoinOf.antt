-- The join of the values of a list. A list is seen only through which values it contains, so that order,
-- grouping and repetition cannot matter.
use Rattle.std.specs.Prelude.{◌≡◌, ◌↔◌, List, Contains}

-- two lists of the same values, in whatever order and however often
pub record SameValues {J : Type 0} (xs ys : List J) : Type 0 where
  pub there : (x : J) → Contains xs x → Contains ys x
  pub back : (x : J) → Contains ys x → Contains xs x

module _ {J : Type 0} (is_kin : J → J → Type 0) where
  -- any two values of the list are kin
  abbrev pub AllKin : List J → Type 0
  AllKin xs = (x y : J) → Contains xs x → Contains xs y → is_kin x y

module _ {J : Type 0} (is_kin : J → J → Type 0) (joined : J → J → J) where
  -- x is kin to y, and joining it to y adds nothing
  abbrev pub IsWithin : J → J → Type 0
  IsWithin x y = is_kin x y × (joined x y ≡ y)

  -- each value of the list is within y
  abbrev pub AllAreWithin : List J → J → Type 0
  AllAreWithin xs y = (x : J) → Contains xs x → IsWithin x y

  -- r is the least value that all values of the list are within
  pub record IsJoinOf (xs : List J) (r : J) : Type 0 where
    pub above : AllAreWithin xs r
    pub least : (u : J) → AllAreWithin xs u → IsWithin r u

  -- each list of the same values has the join r, and no other
  abbrev pub IsJoinOfSet : List J → J → Type 0
  IsJoinOfSet xs r = (ys : List J) → SameValues xs ys → (s : J) → IsJoinOf ys s ↔ (s ≡ r)
