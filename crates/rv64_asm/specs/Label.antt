-- The labels of a text.
use Rattle.std.specs.Prelude.{ℕ, List, Option}
use Rattle.std.specs.Map.{lookup}
use Rattle.std.specs.Str.{bytes_eq}

-- a name, and the address of what follows it
abbrev pub Label : Type 0
Label = List ℕ × ℕ

-- the address of the label of that name
abbrev pub address_of : List Label → List ℕ → Option ℕ
address_of labels name = lookup (bytes_eq name) labels
