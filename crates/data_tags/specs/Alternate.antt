-- Lags of 1 and 200 cycles.
use Rattle.std.specs.Prelude.{◌≡◌, Bool, IsTrue, true, false, ◌&&◌, ◌||◌, if◌then◌else◌}
use Rattle.std.proofs.Common.{arith, inl, inr}
use Rattle.std.proofs.lemmas.Bool.{or_cases}
use Rattle.data_tags.specs.declared.delay.Kind.{Kind}
use Rattle.data_tags.specs.declared.delay.Kind.TheVariants.{Load}
use Rattle.data_tags.specs.declared.delay.Lag.{Lag}
use Rattle.data_tags.specs.Latency.{IsWithin, is_same_lag}
use Rattle.data_tags.specs.LatencyLaws.{same_cycles}

-- whether it is a load
abbrev pub is_load : Kind → Bool
is_load Load = true
is_load _ = false

-- 200 cycles, with a miss where it is a load, or 1 cycle
abbrev pub alternating_lag : Bool → Kind → Lag
alternating_lag long kind = record { cycles = if long then 200 else 1; miss = long && is_load kind }

-- one of the two
abbrev pub is_alternating_lag : Kind → Lag → Bool
is_alternating_lag kind lag = is_same_lag lag (alternating_lag true kind) || is_same_lag lag (alternating_lag false kind)

-- such a lag has from 1 to 200 cycles
pub alternating_within : (kind : Kind) (lag : Lag) → IsTrue (is_alternating_lag kind lag) → IsWithin 200 lag
alternating_within kind lag stated =
    elim (or_cases (is_same_lag lag (alternating_lag true kind)) (is_same_lag lag (alternating_lag false kind)) stated) [
      | inl same ↦ (let e : lag.cycles ≡ 200 = same_cycles lag (alternating_lag true kind) same in record { least = omega arith; most = omega arith })
      | inr same ↦ (let e : lag.cycles ≡ 1 = same_cycles lag (alternating_lag false kind) same in record { least = omega arith; most = omega arith })
    ]
