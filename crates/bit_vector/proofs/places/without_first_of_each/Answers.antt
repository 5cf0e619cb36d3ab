use Rattle.std.proofs.Common.{◌≡◌, ℕ, ◌/◌, ◌^◌, List, [], ◌∷◌, Bool, true, false, length, get_or, drop, replicate, ap, ◌∙◌, arith}
use Rattle.std.specs.Simd.Lanes.{zip2, mask_l}
use Rattle.std.proofs.lemmas.Simd.{get_or-zip2, get_or-replicate}
use Rattle.bit_vector.proofs.places.without_first_of_each.Goals as goal

halved : (w : ℕ) (bits : List Bool) → w ≡ mask_l bits → w / 2 ^ 1 ≡ mask_l (drop 1 bits)
halved w [] h = omega (arith, h)
halved w (true ∷ bits) h = omega (arith, h)
halved w (false ∷ bits) h = omega (arith, h)

pub returns : goal.returns
returns c i bits lt h =
    let xs : List ℕ = c.args.words in
    let ones : List ℕ = replicate 8 1 in
    let eight : length xs ≡ 8 = omega arith in
    let same : get_or (zip2 (λ a b. a / 2 ^ b) xs ones) i 0 ≡ get_or xs i 0 / 2 ^ 1 = get_or-zip2 (λ a b. a / 2 ^ b) xs ones i 0 0 0 (omega (arith, lt, eight)) lt ∙ ap (λ m. get_or xs i 0 / 2 ^ m) (get_or-replicate 8 i 1 0 lt) in
    same ∙ halved (get_or xs i 0) bits h
