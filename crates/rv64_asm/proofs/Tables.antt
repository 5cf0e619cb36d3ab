-- What a table gives has the bound that its rows have.
use Rattle.std.proofs.Common.{◌≡◌, ℕ, ◌<◌, Bool, true, false, List, [], ◌∷◌, Some, refl, arith, ltb}
use Rattle.std.specs.List.{list_all}
use Rattle.std.specs.Str.{bytes_eq}
use Rattle.std.proofs.lemmas.Bool.{and_parts}
use Rattle.std.proofs.lemmas.Grind.{common_steps}
use Rattle.rv64_asm.specs.Words.{lookup, registers}

abbrev below : ℕ → List ℕ × ℕ → Bool
below k r = ltb r.1 k

small : (n k : ℕ) → ltb n k ≡ true → n < k
small n k h = grind (arith, common_steps)

lookup_below : (word : List ℕ) (rows : List (List ℕ × ℕ)) (k n : ℕ) → list_all (below k) rows ≡ true → lookup word rows ≡ Some n → n < k
lookup_below word [] k n h e = absurd cc
lookup_below word (r ∷ rs) k n h e = by (bytes_eq r.0 word) refl (λ f. lookup_below word rs k n (and_parts (below k r) (list_all (below k) rs) h).1 f)
  where
    by : (b : Bool) → bytes_eq r.0 word ≡ b → (lookup word rs ≡ Some n → n < k) → n < k
    by true q rest =
        let f : Some r.1 ≡ Some n = rw q at e in
        let i : r.1 ≡ n = cc in
        let g = and_parts (below k r) (list_all (below k) rs) h in
        rw i at (small r.1 k g.0)
    by false q rest = rest (rw q at e)

-- there are 32 registers
pub register_below : (word : List ℕ) (n : ℕ) → lookup word registers ≡ Some n → n < 32
register_below word n e = lookup_below word registers 32 n refl e
