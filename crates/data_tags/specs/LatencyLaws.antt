-- Every lag that a core's latencies give has from 1 cycle to the greatest latency.
use Rattle.std.specs.Prelude.{◌≡◌, Bool, true, false, IsTrue, ◌==◌, if◌then◌else◌, not}
use Rattle.std.proofs.Common.{arith}
use Rattle.std.proofs.lemmas.Bool.{and_parts, eqb-true}
use Rattle.data_tags.specs.declared.delay.Kind.{Kind}
use Rattle.data_tags.specs.declared.delay.Kind.TheVariants.{Branch, Load, Store, Alu}
use Rattle.data_tags.specs.declared.delay.Lag.{Lag}
use Rattle.data_tags.specs.declared.latencies.Latencies.{Latencies}
use Rattle.data_tags.specs.Latency.{IsWithin, greatest_latency, lag_of, is_same_lag}

-- the same lag has the same cycles
pub same_cycles : (x y : Lag) → IsTrue (is_same_lag x y) → x.cycles ≡ y.cycles
same_cycles x y same = eqb-true x.cycles y.cycles (and_parts (x.cycles == y.cycles) (if x.miss then y.miss else not y.miss) same).0

-- the lag of a kind is within the greatest latency
pub lag_of-within : (l : Latencies) (kind : Kind) (misses : Bool) → IsWithin (greatest_latency l) (lag_of l kind misses)
lag_of-within l Branch misses = record { least = l.branch_in_range.0; most = omega arith }
lag_of-within l Load true = record { least = l.miss_in_range.0; most = omega arith }
lag_of-within l Load false = record { least = l.hit_in_range.0; most = omega arith }
lag_of-within l Store misses = record { least = l.store_in_range.0; most = omega arith }
lag_of-within l Alu misses = record { least = l.alu_in_range.0; most = omega arith }

-- and so is the same lag
pub same_lag_within : (l : Latencies) (kind : Kind) (misses : Bool) (lag : Lag) → IsTrue (is_same_lag lag (lag_of l kind misses)) → IsWithin (greatest_latency l) lag
same_lag_within l kind misses lag same =
    let cycles : lag.cycles ≡ (lag_of l kind misses).cycles = same_cycles lag (lag_of l kind misses) same in
    let within : IsWithin (greatest_latency l) (lag_of l kind misses) = lag_of-within l kind misses in
    record { least = rw cycles within.least; most = rw cycles within.most }
