-- The parts of a text between commas.
use Rattle.std.proofs.Common.{◌≡◌, ℕ, ◌<◌, ◌≤◌, ◌+◌, ◌==◌, Bool, true, false, cond, ltb, List, [], ◌∷◌, length, Some, None, option_map, take, drop, map, refl, ap, arith, inl, inr}
use Rattle.std.specs.List.{position_or_len, slice_split, before_first, after_first}
use Rattle.std.proofs.lemmas.Bool.{ltb-true, ltb-false, cases_Bool}
use Rattle.std.proofs.lemmas.List.Splits.{slice_split_first, length-slice_split}
use Rattle.std.proofs.lemmas.List.{length-map}
use Rattle.rv64_asm.specs.Lexing.{trim, cut, parts, operands, shape_of}
use Rattle.rv64_asm.specs.declared.lexing.Operands.TheVariants.{More}

abbrev comma : ℕ → Bool
comma x = x == 44

split_one : (s : List ℕ) → length s ≤ position_or_len comma s → slice_split comma s ≡ s ∷ []
split_one [] le = refl
split_one (x ∷ xs) le = elim (cases_Bool (comma x)) [
  | inl e ↦ absurd (let h : length (x ∷ xs) ≤ position_or_len comma (x ∷ xs) = le in let k : length (x ∷ xs) ≤ 0 = rw e at h in omega arith)
  | inr e ↦ (let h : length (x ∷ xs) ≤ position_or_len comma (x ∷ xs) = le in let k : length (x ∷ xs) ≤ 1 + position_or_len comma xs = rw e at h in rw (e, split_one xs (omega arith)) refl)
]

abbrev halves : List ℕ → ℕ → List ℕ × List ℕ
halves s i = (take i s, drop (i + 1) s)

no_cut : (s : List ℕ) (b : Bool) (x : List ℕ × List ℕ) → None ≡ option_map (halves s) (cond b (Some (position_or_len comma s)) None) → b ≡ false
no_cut s true x e = absurd cc
no_cut s false x e = refl

a_cut : (s : List ℕ) (b : Bool) (x : List ℕ × List ℕ) → Some x ≡ option_map (halves s) (cond b (Some (position_or_len comma s)) None) → (b ≡ true) × (x ≡ halves s (position_or_len comma s))
a_cut s true x e = (refl, cc)
a_cut s false x e = absurd cc

pub one_part : (s : List ℕ) → None ≡ cut 44 s → parts s ≡ trim s ∷ []
one_part s e = ap (map trim) (split_one s (ltb-false _ _ (no_cut s (ltb (position_or_len comma s) (length s)) (s, s) e)))

pub first_part : (s a b : List ℕ) → Some (a, b) ≡ cut 44 s → parts s ≡ trim a ∷ parts b
first_part s a b e =
    let h = a_cut s (ltb (position_or_len comma s) (length s)) (a, b) e in
    let front : a ≡ before_first comma s = ap (λ (p : List ℕ × List ℕ). p.0) h.1 in
    let back : b ≡ after_first comma s = ap (λ (p : List ℕ × List ℕ). p.1) h.1 in
    rw (front, back) (ap (map trim) (slice_split_first comma s 0 (ltb-true _ _ h.0)))

pub operands_are : (s : List ℕ) → false ≡ (length s == 0) → operands s ≡ parts s
operands_are s e = rw (← e) refl

pub parts_some : (s : List ℕ) → 0 < length (parts s)
parts_some s = omega (arith, length-map (slice_split comma s) trim, length-slice_split comma s)

pub more_than_three : (a b c : List ℕ) (xs : List (List ℕ)) → 0 < length xs → More ≡ shape_of (a ∷ b ∷ c ∷ xs)
more_than_three a b c [] h = absurd (omega arith)
more_than_three a b c (x ∷ xs) h = refl
