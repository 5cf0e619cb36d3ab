-- Stamps along a list.
use Rattle.std.specs.Prelude.{ℕ, ◌<◌, List, length, slice_index_or, filter, nat_lt}

module _ {X : Type 0} (stamp : X → ℕ) where
  -- each stamp is below those of all later entries
  abbrev pub IsGrowing : List X → Type 0
  IsGrowing xs = (i j : ℕ) (d : X) → i < j → j < length xs → stamp (slice_index_or xs i d) < stamp (slice_index_or xs j d)

  -- the entries whose stamp is below n
  abbrev pub below : ℕ → List X → List X
  below n xs = filter (λ x. nat_lt (stamp x) n) xs
