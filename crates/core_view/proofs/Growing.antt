-- Stamps that grow, said of each two places, and one by one.
use Rattle.std.proofs.Common.{ℕ, suc, ◌+◌, ◌<◌, ◌≤◌, List, [], ◌∷◌, length, get_or, arith}
use Rattle.reorder_buffer.specs.Growing.{IsGrowing as IsRising}
use Rattle.core_view.specs.declared.entry.Entry.{Entry}
use Rattle.core_view.specs.Flight.{IsGrowing}

growing_list : (low : ℕ) (es : List Entry) → ((i : ℕ) (d : Entry) → i < length es → low ≤ (get_or es i d).stamp) → IsRising (λ (e : Entry). e.stamp) es → IsGrowing low es
growing_list low [] from rising = tt
growing_list low (e ∷ es) from rising =
    (from 0 e (omega arith), growing_list (e.stamp + 1) es (λ i d lt. omega (arith, rising 0 (suc i) d (omega arith) (omega arith))) (λ i j d lt within. rising (suc i) (suc j) d (omega arith) (omega arith)))

pub growing_whole : (es : List Entry) → IsRising (λ (e : Entry). e.stamp) es → IsGrowing 0 es
growing_whole es rising = growing_list 0 es (λ i d lt. omega arith) rising
