-- A whole text and its parts.
use Rattle.std.proofs.Common.{◌≡◌, ℕ, List, [], ◌∷◌, ◌++◌, refl, sym, ap, ◌∙◌, append_assoc, arith, get_or, length}
use Rattle.std.specs.Prelude.{codes}
use Rattle.std.proofs.lemmas.List.{append-nil}
use Rattle.checkpoint_file.specs.ContextLines.{HasEightContexts}
use Rattle.checkpoint_file.specs.Forms.{HasForm}
use Rattle.checkpoint_file.specs.Lines.{AreBytes, origin_line, seal_line, version_line}
use Rattle.checkpoint_file.specs.PageLines.{IsNoPage}
use Rattle.checkpoint_file.specs.Texts.{CheckpointValue, body, body_of, contexts_text}

pub nil_of : (xs : List ℕ) → length xs ≡ 0 → xs ≡ []
nil_of [] e = refl
nil_of (x ∷ xs) e = absurd (omega (arith, e))

three_parts : (v o c s : List ℕ) → (v ++ (o ++ c)) ++ s ≡ v ++ (o ++ (c ++ (s ++ [])))
three_parts v o c s =
    append_assoc v (o ++ c) s ∙ ap (λ (t : List ℕ). v ++ t) (append_assoc o c s ∙ ap (λ (t : List ℕ). o ++ (c ++ t)) (sym (append-nil s)))

pub form_parts : (value : CheckpointValue)
    → body_of value ++ seal_line value.seal ≡ version_line ++ (origin_line value.digest ++ (contexts_text value.contexts ++ (seal_line value.seal ++ [])))
form_parts value = three_parts version_line (origin_line value.digest) (contexts_text value.contexts) (seal_line value.seal)

-- what begins with another letter is no page
other_letter : (bytes rest : List ℕ) → get_or bytes 0 0 ≡ 115 → bytes ≡ codes "page " ++ rest → ⊥
other_letter bytes rest e page = let both : 115 ≡ 112 = sym e ∙ ap (λ (t : List ℕ). get_or t 0 0) page in omega (arith, both)

-- a seal is no page
pub no_page_seal : (seal rest : List ℕ) → IsNoPage (seal_line seal ++ rest)
no_page_seal seal rest tail = other_letter (seal_line seal ++ rest) tail refl

-- the parts were found one after the other
pub form_found : (text origin contexts end rest digest counts seal : List ℕ) → text ≡ version_line ++ origin → origin ≡ origin_line digest ++ contexts
    → AreBytes 32 digest → HasEightContexts counts contexts end → end ≡ seal_line seal ++ rest → AreBytes 32 seal → rest ≡ []
    → HasForm text (record { digest = digest; counts = counts; seal = seal })
form_found text origin contexts end rest digest counts seal a b fits k d sealed none =
    let value : CheckpointValue = record { digest = digest; contexts = k.contexts; seal = seal } in
    let e0 : end ≡ seal_line seal ++ [] = d ∙ ap (λ (t : List ℕ). seal_line seal ++ t) none in
    let e1 : contexts ≡ contexts_text k.contexts ++ (seal_line seal ++ []) = k.parts ∙ ap (λ (t : List ℕ). contexts_text k.contexts ++ t) e0 in
    let e2 : origin ≡ origin_line digest ++ (contexts_text k.contexts ++ (seal_line seal ++ [])) = b ∙ ap (λ (t : List ℕ). origin_line digest ++ t) e1 in
    record {
      value = value;
      is_value = record { digest = fits; contexts = k.fits; seal = sealed; text = a ∙ ap (λ (t : List ℕ). version_line ++ t) e2 ∙ sym (form_parts value) };
      is_form = record { digest = refl; counts = k.counted; seal = refl };
    }

-- the text of marks with a digest and a seal, in its parts
pub text_parts : (digest contexts seal : List ℕ) → body digest contexts ++ seal_line seal ≡ version_line ++ (origin_line digest ++ (contexts ++ (seal_line seal ++ [])))
text_parts digest contexts seal = three_parts version_line (origin_line digest) contexts (seal_line seal)

pub text_found : (digest contexts seal text rest : List ℕ) → text ≡ version_line ++ (origin_line digest ++ (contexts ++ (seal_line seal ++ rest))) → rest ≡ []
    → text ≡ body digest contexts ++ seal_line seal
text_found digest contexts seal text rest e none =
    e ∙ ap (λ (t : List ℕ). version_line ++ (origin_line digest ++ (contexts ++ (seal_line seal ++ t)))) none ∙ sym (text_parts digest contexts seal)
