-- The bits of a word.
use Rattle.std.specs.Prelude.{ℕ, Bool, List, ◌==◌}
use Rattle.std.specs.List.{list_any}
use Rattle.std.specs.Int.{bit_at}

-- the word has the bit of a place
unfoldable pub has : ℕ → ℕ → Bool
has word place = bit_at word place == 1

-- the place is in the list
abbrev pub is_listed : List ℕ → ℕ → Bool
is_listed places p = list_any (λ q. q == p) places
