-- Counts at contexts, and the greatest of them.
use Rattle.std.specs.Prelude.{ℕ, max, ◌==◌, if◌then◌else◌, List, [], ◌∷◌}

-- the greatest of a number and those of a list
abbrev pub greatest : ℕ → List ℕ → ℕ
greatest n [] = n
greatest n (x ∷ xs) = max x (greatest n xs)

-- the count of an entry at the context i, 0 where it is one of another context
abbrev pub count_at : ℕ → ℕ × ℕ → ℕ
count_at i x = if i == x.0 then x.1 else 0

-- the greatest count at the context i, 0 where there is none
abbrev pub greatest_at : ℕ → List (ℕ × ℕ) → ℕ
greatest_at i [] = 0
greatest_at i (x ∷ xs) = max (count_at i x) (greatest_at i xs)
