-- Which entries can be renamed.
use Rattle.std.specs.Prelude.{◌≡◌, ℕ, ◌+◌, ◌<◌, ◌≤◌, true, false, length}
use Rattle.core_profile.specs.declared.profile.Profile.{Profile}
use Rattle.core_view.specs.declared.operation.Operation.{Operation}
use Rattle.core_view.specs.Operations.{destination_of, stops_at_fetch, is_load, is_store}
use Rattle.core_view.specs.Queues.{loads_of, stores_of}
use Rattle.core_view.specs.View.{entry_at}
use Rattle.data_flow.specs.Flow.{Flow, taken}
use Rattle.core_context.specs.Track.{Track}

-- of the queues, each place that an operation needs is free
pub record HasPlaces (f : Flow) (t : Track) (o : Operation) : Type 0 where
  pub place : stops_at_fetch o ≡ false → length f.waiters < f.places
  pub load : is_load o ≡ true → length (loads_of t.context.flight) < t.load_places
  pub store : is_store o ≡ true → length (stores_of t.context.flight) < t.store_places

-- the oldest fetched entry has this stamp, was fetched at least the front delay ago, and each place that it needs is free
pub record IsRenamable (f : Flow) (t : Track) (p : Profile) (cycle stamp : ℕ) : Type 0 where
  pub some : t.renamed < length t.context.flight
  pub fits : t.renamed < p.reorder_buffer
  pub stamp_is : (entry_at t.context t.renamed).stamp ≡ stamp
  pub age : (entry_at t.context t.renamed).fetched + p.front_delay ≤ cycle
  pub free : 0 < destination_of (entry_at t.context t.renamed).operation → taken f < f.extra
  pub place : stops_at_fetch (entry_at t.context t.renamed).operation ≡ false → length f.waiters < f.places
  pub load : is_load (entry_at t.context t.renamed).operation ≡ true → length (loads_of t.context.flight) < t.load_places
  pub store : is_store (entry_at t.context t.renamed).operation ≡ true → length (stores_of t.context.flight) < t.store_places
