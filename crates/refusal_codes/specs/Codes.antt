-- The codes, their names, and the code of a name.
use Rattle.std.specs.Prelude.{ℕ, Bool, List, [], ◌∷◌, Option, codes, find, map}
use Rattle.std.specs.Char.{to_ascii_lowercase}
use Rattle.std.specs.Str.{bytes_eq}
use Rattle.refusal_codes.specs.declared.code.Code.{Code}
use Rattle.refusal_codes.specs.declared.code.Code.TheVariants.{A1, A2, A3, A4, A5, A6, A7, A8, C3, E1, J1, J2, J3, J4, J5, J6, P1, P2, P3, P4, P5, S1, S2}

-- the codes in order
abbrev pub all_codes : List Code
all_codes = A1 ∷ A2 ∷ A3 ∷ A4 ∷ A5 ∷ A6 ∷ A7 ∷ A8 ∷ C3 ∷ E1 ∷ J1 ∷ J2 ∷ J3 ∷ J4 ∷ J5 ∷ J6 ∷ P1 ∷ P2 ∷ P3 ∷ P4 ∷ P5 ∷ S1 ∷ S2 ∷ []

-- the name of a code
abbrev pub name_of : Code → List ℕ
name_of A1 = codes "A1"
name_of A2 = codes "A2"
name_of A3 = codes "A3"
name_of A4 = codes "A4"
name_of A5 = codes "A5"
name_of A6 = codes "A6"
name_of A7 = codes "A7"
name_of A8 = codes "A8"
name_of C3 = codes "C3"
name_of E1 = codes "E1"
name_of J1 = codes "J1"
name_of J2 = codes "J2"
name_of J3 = codes "J3"
name_of J4 = codes "J4"
name_of J5 = codes "J5"
name_of J6 = codes "J6"
name_of P1 = codes "P1"
name_of P2 = codes "P2"
name_of P3 = codes "P3"
name_of P4 = codes "P4"
name_of P5 = codes "P5"
name_of S1 = codes "S1"
name_of S2 = codes "S2"

-- the names in order
abbrev pub code_names : List (List ℕ)
code_names = map name_of all_codes

-- two names that differ in capitals at most
abbrev pub is_alike : List ℕ → List ℕ → Bool
is_alike name other = bytes_eq (map to_ascii_lowercase name) (map to_ascii_lowercase other)

-- the code of a name, in capitals or small letters
abbrev pub code_named : List ℕ → Option Code
code_named name = find (λ code. is_alike (name_of code) name) all_codes
