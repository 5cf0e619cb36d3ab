-- The table of data tags, worked by hand.
use Rattle.std.proofs.Common.{◌≡◌, refl}
use Rattle.data_tags.specs.declared.delay.Kind.TheVariants.{Load, Store}
use Rattle.data_tags.specs.declared.latencies.Latencies.{Latencies}
use Rattle.data_tags.specs.Latency.{load_lag}
use Rattle.data_tags.specs.Table.{new_table, lag_in, after_access_in}
use Rattle.std.specs.Prelude.{true, false}

module _ (l : Latencies) where
  -- the first load of 64 bytes misses, and the next one of them hits
  pub first_load : lag_in (new_table l) 0 Load 0x100000 ≡ load_lag l true
  first_load = refl

  pub next_load : lag_in (after_access_in (new_table l) 0 Load 0x100000) 0 Load 0x10003f ≡ load_lag l false
  next_load = refl

  -- the 64 bytes behind them have a tag of their own
  pub bytes_behind : lag_in (after_access_in (new_table l) 0 Load 0x100000) 0 Load 0x100040 ≡ load_lag l true
  bytes_behind = refl

  -- another context's load of the same address misses, and takes the line
  pub other_context : lag_in (after_access_in (new_table l) 0 Load 0x100000) 1 Load 0x100000 ≡ load_lag l true
  other_context = refl

  pub line_taken : lag_in (after_access_in (after_access_in (new_table l) 0 Load 0x100000) 1 Load 0x100000) 0 Load 0x100000 ≡ load_lag l true
  line_taken = refl

  -- so does a load 4096 bytes away
  pub same_line : lag_in (after_access_in (after_access_in (new_table l) 0 Load 0x100000) 0 Load 0x101000) 0 Load 0x100000 ≡ load_lag l true
  same_line = refl

  -- a store leaves no tag
  pub after_store : after_access_in (new_table l) 0 Store 0x100000 ≡ new_table l
  after_store = refl
