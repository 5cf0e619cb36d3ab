-- How long each kind of instruction takes by a core's latencies.
use Rattle.std.specs.Prelude.{◌≡◌, ℕ, ◌≤◌, max, Bool, false, not, ◌==◌, ◌&&◌, if◌then◌else◌}
use Rattle.core_profile.specs.declared.profile.Profile.{Profile}
use Rattle.data_tags.specs.declared.delay.Kind.{Kind}
use Rattle.data_tags.specs.declared.delay.Kind.TheVariants.{Branch, Load, Store, Alu}
use Rattle.data_tags.specs.declared.delay.Lag.{Lag}
use Rattle.data_tags.specs.declared.latencies.Latencies.{Latencies}

-- the five latencies are a profile's
pub record HasLatenciesOf (profile : Profile) (l : Latencies) : Type 0 where
  pub alu_is : l.alu ≡ profile.alu_latency
  pub branch_is : l.branch ≡ profile.branch_latency
  pub store_is : l.store ≡ profile.store_latency
  pub hit_is : l.hit ≡ profile.hit_latency
  pub miss_is : l.miss ≡ profile.miss_latency

-- the lag has from 1 to so many cycles
pub record IsWithin (greatest : ℕ) (lag : Lag) : Type 0 where
  pub least : 1 ≤ lag.cycles
  pub most : lag.cycles ≤ greatest

-- the greatest of the five latencies
abbrev pub greatest_latency : Latencies → ℕ
greatest_latency l = max (max (max l.alu l.branch) l.store) (max l.hit l.miss)

-- so many cycles, of what is no load that misses
abbrev pub lag_without_miss : ℕ → Lag
lag_without_miss cycles = record { cycles = cycles; miss = false }

-- the lag of a load that misses or hits
abbrev pub load_lag : Latencies → Bool → Lag
load_lag l misses = record { cycles = if misses then l.miss else l.hit; miss = misses }

-- the lag of a kind; only a load may miss
abbrev pub lag_of : Latencies → Kind → Bool → Lag
lag_of l Branch misses = lag_without_miss l.branch
lag_of l Load misses = load_lag l misses
lag_of l Store misses = lag_without_miss l.store
lag_of l Alu misses = lag_without_miss l.alu

-- the two are the same lag
abbrev pub is_same_lag : Lag → Lag → Bool
is_same_lag x y = (x.cycles == y.cycles) && (if x.miss then y.miss else not y.miss)

-- a lag of the kind where a load may hit or miss
abbrev pub is_lag_of : Latencies → Kind → Lag → Bool
is_lag_of l kind lag = is_same_lag lag (lag_of l kind lag.miss)
