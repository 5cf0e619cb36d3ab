-- Contexts' lines in front of a rest.
use Rattle.std.specs.Prelude.{◌≡◌, ℕ, ◌+◌, ◌<◌, List, [], ◌∷◌, ◌++◌}
use Rattle.checkpoint_file.specs.Contexts.{AreRegisters, ContextValue, FitsContext, context_text, register_lines}
use Rattle.checkpoint_file.specs.Texts.{contexts_text}
use Rattle.join_law.specs.Eight.{eight_from, place_of, places}
use Rattle.join_law.specs.declared.places.Eight.{Eight}

-- the registers from a number up to x31, and then the rest
pub record HasRegisters (number : ℕ) (bytes rest : List ℕ) : Type 0 where
  pub values : List ℕ
  pub registers : AreRegisters number values
  pub parts : bytes ≡ register_lines number values ++ rest

-- a context at this count, and then the rest
pub record HasContext (number count : ℕ) (bytes rest : List ℕ) : Type 0 where
  pub context : ContextValue
  pub fits : FitsContext context
  pub counted : context.count ≡ count
  pub parts : bytes ≡ context_text number context ++ rest

-- contexts from a number on at these counts, and then the rest
abbrev pub HasContexts : ℕ → List ℕ → List ℕ → List ℕ → Type 0
HasContexts number [] bytes rest = bytes ≡ rest
HasContexts number (count ∷ counts) bytes rest =
    (next : List ℕ) × HasContext number count bytes next × HasContexts (number + 1) counts next rest

-- the counts of eight contexts
abbrev pub counts_of : Eight ContextValue → List ℕ
counts_of contexts = places (eight_from (λ i. (place_of contexts i).count))

-- contexts 0 to 7 at these counts, and then the rest
pub record HasEightContexts (counts bytes rest : List ℕ) : Type 0 where
  pub contexts : Eight ContextValue
  pub fits : (i : ℕ) → i < 8 → FitsContext (place_of contexts i)
  pub counted : counts ≡ counts_of contexts
  pub parts : bytes ≡ contexts_text contexts ++ rest
