-- The contexts of a plan, and the origin that they start from.
use Rattle.std.specs.Prelude.{◌≡◌, ◌<◌, ℕ, Bool, true, not, List, [], ◌∷◌, Option, Some, None, is_some, find, codes, length, ◌==◌, if◌then◌else◌}
use Rattle.std.specs.Option.{option_and_then}
use Rattle.toml.specs.Data.{Data, Items, Members, get_item, get_member, as_str}
use Rattle.hart_step.specs.declared.environment.Environment.TheVariants.{One}
use Rattle.join_law.specs.Eight.{place_of}
use Rattle.origin_set.specs.OriginValue.{OriginValue}
use Rattle.rv64_asm.specs.ProgramValue.{ProgramValue}
use Rattle.lab_plan.specs.Parts.{array_at}
use Rattle.lab_plan.specs.Programs.{IsProgramOf, programs_at}

-- a name: "" is none
abbrev pub named : List ℕ → Option (List ℕ)
named name = if length name == 0 then None else Some name

-- the name that a context has: none where it is missing or ""
abbrev pub name_at : Items → ℕ → Option (List ℕ)
name_at names i = option_and_then named (option_and_then as_str (get_item i names))

-- `contexts`
abbrev pub contexts_at : Members → Items
contexts_at doc = array_at (codes "contexts") doc

-- a program has the name, or there is no name
abbrev pub is_known : Members → Option (List ℕ) → Bool
is_known programs None = true
is_known programs (Some name) = is_some (get_member name programs)

-- the first context that names a program which the plan doesn't have
abbrev pub first_unknown : Members → Option ℕ
first_unknown doc = find (λ i. not (is_known (programs_at doc) (name_at (contexts_at doc) i))) (0 ∷ 1 ∷ 2 ∷ 3 ∷ 4 ∷ 5 ∷ 6 ∷ 7 ∷ [])

-- what a context starts from: the program of its value, or none
abbrev pub IsStartOf : Option Data → Option ProgramValue → Type 0
IsStartOf None program = program ≡ None
IsStartOf (Some d) None = ⊥
IsStartOf (Some d) (Some program) = IsProgramOf d program

-- the value of a program that a context names
abbrev pub value_of : Members → ℕ → Option Data
value_of doc i = option_and_then (λ name. get_member name (programs_at doc)) (name_at (contexts_at doc) i)

-- each context starts from the program that it names, or from none, in environment 1
pub record IsOriginOf (doc : Members) (origin : OriginValue) : Type 0 where
  pub environment : origin.environment ≡ One
  pub programs : (i : ℕ) → i < 8 → IsStartOf (value_of doc i) (place_of origin.programs i)
