-- How full front lists are, for fetch.
use Rattle.std.specs.Prelude.{ℕ, ◌+◌, ◌&&◌, count_by, if◌then◌else◌}
use Rattle.core_view.specs.Flight.{is_open}
use Rattle.core_view.specs.View.{Context}
use Rattle.lawful_cycle.specs.Fetch.{front_places, is_fetched, is_running}

-- how many entries a context's front list has; where the context doesn't run, or waits behind a stop, a whole list more, so that it has no room
abbrev pub front_fill : Context → ℕ
front_fill x = count_by is_fetched x.flight + (if is_running x.status && is_open x.flight then 0 else front_places)
