-- A line of text in its parts.
use Rattle.std.specs.Prelude.{ℕ, ◌+◌, ◌==◌, ◌||◌, Bool, List, [], ◌∷◌, take, drop, reverse, map, length, if◌then◌else◌, Option, option_map}
use Rattle.std.specs.List.{before_first, slice_split, position, position_or_len}
use Rattle.rv64_asm.specs.declared.lexing.Operands.{Operands}
use Rattle.rv64_asm.specs.declared.lexing.Operands.TheVariants.{Zero, One, Two, Three, More}

-- a space or a tab
abbrev pub is_blank : ℕ → Bool
is_blank b = b == 32 || b == 9

-- without the blanks before it
abbrev pub skip_blanks : List ℕ → List ℕ
skip_blanks [] = []
skip_blanks (b ∷ bs) = if is_blank b then skip_blanks bs else b ∷ bs

-- without the blanks round it
abbrev pub trim : List ℕ → List ℕ
trim bs = reverse (skip_blanks (reverse (skip_blanks bs)))

-- the parts before and after the first such byte
abbrev pub cut : ℕ → List ℕ → Option (List ℕ × List ℕ)
cut c bs = option_map (λ i. (take i bs, drop (i + 1) bs)) (position (λ b. b == c) bs)

-- without its comment
abbrev pub code_of : List ℕ → List ℕ
code_of line = before_first (λ b. b == 35) line

-- the word at the front, up to a blank, and what stands behind the blanks after it
abbrev pub word_of : List ℕ → List ℕ × List ℕ
word_of bs = (before_first is_blank bs, skip_blanks (drop (position_or_len is_blank bs) bs))

-- the operands stand between commas
abbrev pub parts : List ℕ → List (List ℕ)
parts bs = map trim (slice_split (λ x. x == 44) bs)

-- none where nothing stands behind the word
abbrev pub operands : List ℕ → List (List ℕ)
operands bs = if length bs == 0 then [] else parts bs

-- how many, up to three
abbrev pub shape_of : List (List ℕ) → Operands (List ℕ)
shape_of [] = Zero
shape_of (a ∷ []) = One a
shape_of (a ∷ b ∷ []) = Two a b
shape_of (a ∷ b ∷ c ∷ []) = Three a b c
shape_of (a ∷ b ∷ c ∷ d ∷ more) = More
