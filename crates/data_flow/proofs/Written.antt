-- What stands in a slot after one is written.
use Rattle.std.proofs.Common.{◌≡◌, ◌≢◌, ℕ, ◌<◌, length, refl, arith}
use Rattle.std.proofs.lemmas.Bool.{eq-eqb, ne_eqb}
use Rattle.std.proofs.lemmas.List.{get_or-set_same, get_or-set_other}
use Rattle.data_flow.specs.declared.operands.Renamed.{Renamed}
use Rattle.data_flow.specs.declared.slots.Slots.{Slots}
use Rattle.data_flow.specs.Slots.{slot_at, with_slot}

-- there are 64 slots
pub record AreWide (s : Slots) : Type 0 where
  pub destinations : length s.destinations ≡ 64
  pub renamed_destinations : length s.renamed_destinations ≡ 64
  pub renamed_firsts : length s.renamed_firsts ≡ 64
  pub renamed_seconds : length s.renamed_seconds ≡ 64

pub slot_written : (s : Slots) (i : ℕ) (n : Renamed) → AreWide s → i < 64 → slot_at (with_slot s i n) i ≡ n
slot_written s i n wide lt =
    rw (
      get_or-set_same s.destinations i n.operands.destination 0 (omega (arith, wide.destinations)),
      eq-eqb i i refl,
      get_or-set_same s.renamed_destinations i n.destination 0 (omega (arith, wide.renamed_destinations)),
      get_or-set_same s.renamed_firsts i n.first 0 (omega (arith, wide.renamed_firsts)),
      get_or-set_same s.renamed_seconds i n.second 0 (omega (arith, wide.renamed_seconds)),
    ) refl

pub slot_kept : (s : Slots) (i k : ℕ) (n : Renamed) → k ≢ i → slot_at (with_slot s i n) k ≡ slot_at s k
slot_kept s i k n other =
    rw (
      get_or-set_other s.destinations i k n.operands.destination 0 other,
      ne_eqb k i other,
      get_or-set_other s.renamed_destinations i k n.destination 0 other,
      get_or-set_other s.renamed_firsts i k n.first 0 other,
      get_or-set_other s.renamed_seconds i k n.second 0 other,
    ) refl
