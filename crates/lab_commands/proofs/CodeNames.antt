-- A text that `clap` takes for one of the names of the codes is the name of a code.
use Rattle.std.proofs.Common.{◌≡◌, ◌∙◌, ℕ, Bool, true, false, List, [], ◌∷◌, refl, sym, ap}
use Rattle.std.specs.Prelude.{IsSome, find}
use Rattle.std.specs.List.{list_any}
use Rattle.clap.specs.Values.{same_text}
use Rattle.clap.proofs.WalkLemmas.{list_any-map}
use Rattle.refusal_codes.specs.Codes.{all_codes, code_named, name_of}
use Rattle.lab_commands.specs.CommandLine.{AreCodes, Names}

-- what is there is found
found : {X : Type 0} (p : X → Bool) (xs : List X) → list_any p xs ≡ true → IsSome (find p xs)
found p [] e = cc
found p (x ∷ xs) e = go (p x) refl (found p xs)
  where
    go : (t : Bool) → p x ≡ t → (list_any p xs ≡ true → IsSome (find p xs)) → IsSome (find p (x ∷ xs))
    go true t rest = rw t refl
    go false t rest = rw t (rest (rw t at e))

-- one of the names of the codes
pub code_known : (names : Names) (text : List ℕ) → AreCodes names → list_any (λ name. same_text true name.now text) names.now ≡ true → IsSome (code_named text)
code_known names text are e =
    let is : List ℕ → Bool = λ name. same_text true name text in
    found (λ code. is (name_of code)) all_codes
    (list_any-map is name_of all_codes ∙ (sym (ap (list_any is) are) ∙ (sym (list_any-map is (λ name. name.now) names.now) ∙ e)))
