-- The first line of a text of another version.
use Rattle.std.specs.Prelude.{◌≡◌, ◌≢◌, ℕ, Bool, ⊤, true, false, List, [], ◌∷◌, ◌++◌, codes}
use Rattle.std.specs.Char.{is_ascii_digit}
use Rattle.std.specs.List.{list_all}

-- digits, and then the rest
pub record HasDigits (bytes rest : List ℕ) : Type 0 where
  pub digits : List ℕ
  pub all : list_all is_ascii_digit digits ≡ true
  pub parts : bytes ≡ digits ++ rest

-- no digit stands at the front
abbrev pub IsNoDigit : List ℕ → Type 0
IsNoDigit [] = ⊤
IsNoDigit (c ∷ cs) = is_ascii_digit c ≡ false

-- a digit that is 0 only alone, and 1 only with others
pub record IsOther (first : ℕ) (alone : Bool) : Type 0 where
  pub digit : is_ascii_digit first ≡ true
  pub plain : first ≡ 48 → alone ≡ true
  pub other : first ≡ 49 → alone ≡ false

-- a decimal number: digits, of which a first 0 stands alone
pub record IsNumeral (first : ℕ) (others : List ℕ) : Type 0 where
  pub digits : list_all is_ascii_digit (first ∷ others) ≡ true
  pub plain : first ≡ 48 → others ≡ []

-- a number other than 1, the end of the line, and then anything
pub record HasOtherNumber (bytes : List ℕ) : Type 0 where
  pub first : ℕ
  pub others : List ℕ
  pub rest : List ℕ
  pub numeral : IsNumeral first others
  pub other : first ∷ others ≢ codes "1"
  pub parts : bytes ≡ first ∷ (others ++ (10 ∷ rest))

-- a version line with such a number
pub record IsOtherVersion (text : List ℕ) : Type 0 where
  pub number : List ℕ
  pub other : HasOtherNumber number
  pub parts : text ≡ codes "smt-lab checkpoint " ++ number
