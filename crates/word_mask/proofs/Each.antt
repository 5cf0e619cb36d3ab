-- A word's bits, taken from each of eight.
use Rattle.std.proofs.Common.{◌≡◌, ℕ, zero, suc, ◌<◌, ◌^◌, ◌-◌, List, [], ◌∷◌, get_or, bit_and, not, ◌&&◌, arith}
use Rattle.std.specs.Prelude.{slice_index}
use Rattle.word_mask.specs.Mask.{has}
use Rattle.word_mask.proofs.Words.{has_without}

pub each_without : (xs : List ℕ) (other i p : ℕ) → ((k : ℕ) → k < 8 → get_or xs k 0 < 2 ^ 64) → other < 2 ^ 64 → i < 8
    → has (slice_index (bit_and (get_or xs 0 0) (18446744073709551615 - other) ∷ bit_and (get_or xs 1 0) (18446744073709551615 - other) ∷ bit_and (get_or xs 2 0) (18446744073709551615 - other) ∷ bit_and (get_or xs 3 0) (18446744073709551615 - other) ∷ bit_and (get_or xs 4 0) (18446744073709551615 - other) ∷ bit_and (get_or xs 5 0) (18446744073709551615 - other) ∷ bit_and (get_or xs 6 0) (18446744073709551615 - other) ∷ bit_and (get_or xs 7 0) (18446744073709551615 - other) ∷ []) i) p ≡ (has (slice_index xs i) p && not (has other p))
each_without xs other zero p fits also lt = has_without (get_or xs 0 0) other p (fits 0 (omega arith)) also
each_without xs other (suc zero) p fits also lt = has_without (get_or xs 1 0) other p (fits 1 (omega arith)) also
each_without xs other (suc (suc zero)) p fits also lt = has_without (get_or xs 2 0) other p (fits 2 (omega arith)) also
each_without xs other (suc (suc (suc zero))) p fits also lt = has_without (get_or xs 3 0) other p (fits 3 (omega arith)) also
each_without xs other (suc (suc (suc (suc zero)))) p fits also lt = has_without (get_or xs 4 0) other p (fits 4 (omega arith)) also
each_without xs other (suc (suc (suc (suc (suc zero))))) p fits also lt = has_without (get_or xs 5 0) other p (fits 5 (omega arith)) also
each_without xs other (suc (suc (suc (suc (suc (suc zero)))))) p fits also lt = has_without (get_or xs 6 0) other p (fits 6 (omega arith)) also
each_without xs other (suc (suc (suc (suc (suc (suc (suc zero))))))) p fits also lt = has_without (get_or xs 7 0) other p (fits 7 (omega arith)) also
each_without xs other (suc (suc (suc (suc (suc (suc (suc (suc i)))))))) p fits also lt = absurd (omega (arith, lt))
