-- What is asked of a context's oldest fetched entry.
use Rattle.std.specs.Prelude.{Bool, false}
use Rattle.std.specs.Option.{option_map_or}
use Rattle.core_view.specs.Operations.{stops_at_fetch}
use Rattle.core_view.specs.View.{Context}
use Rattle.lawful_cycle.specs.Rename.{oldest_fetched}

-- whether a context's oldest fetched entry stops at fetch
abbrev pub front_stops : Context → Bool
front_stops x = option_map_or (λ e. stops_at_fetch e.operation) (oldest_fetched x) false
