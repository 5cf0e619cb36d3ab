-- What callers may cite: the fields of a profile determine it; where the keys of a table's entries grow, a name that comes before them is none of them.
use Rattle.std.proofs.Common.{◌≡◌, ℕ, List, [], ◌∷◌, None, string_bytes, refl}
use Rattle.std.proofs.lemmas.Cmp.{nat_list_cmp_total}
use Rattle.std.specs.List.{AllByRecursion}
use Rattle.std.specs.Map.{keys_of}
use Rattle.toml.proofs.Views.{Entry}
use Rattle.toml.specs.Data.{get_member}
use Rattle.toml.specs.View.{members_view}
use Rattle.core_profile.specs.Tables.{IsBefore}
-- profiles with the same fields are one
pub use Rattle.core_profile.proofs.OneProfile.{one_profile}

-- each key of the entries comes after a name
abbrev pub AreAfter : List ℕ → List Entry → Type 0
AreAfter name es = AllByRecursion (λ k. IsBefore name (string_bytes k)) (keys_of es)

are_after : (name other : List ℕ) (es : List Entry) → IsBefore name other → AreAfter other es → AreAfter name es
are_after name other [] less h = tt
are_after name other (e ∷ es) less h = (nat_list_cmp_total.trans name other (string_bytes e.0) less h.0, are_after name other es less h.1)

-- none of these has a name that comes before all of them
pub not_there : (name : List ℕ) (es : List Entry) → AreAfter name es → get_member name (members_view es) ≡ None
not_there name [] h = refl
not_there name (e ∷ es) h = rw h.0 (not_there name es h.1)

-- a name that comes before a key is no name of an entry at that key or later
pub not_earlier : (name : List ℕ) (e : Entry) (es : List Entry) → AreAfter (string_bytes e.0) es → IsBefore name (string_bytes e.0) → get_member name (members_view (e ∷ es)) ≡ None
not_earlier name e es later less = not_there name (e ∷ es) (less, are_after name (string_bytes e.0) es less later)
