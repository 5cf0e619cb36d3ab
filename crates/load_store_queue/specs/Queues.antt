-- The load queue and the store queue of a context: the loads and the stores of its flight, oldest first.
use Rattle.std.specs.Prelude.{◌≡◌, ℕ, ◌<◌, ◌==◌, if◌then◌else◌, true, List, [], ◌∷◌, length, Option}
use Rattle.core_view.specs.declared.span.Span.{Span}
use Rattle.core_view.specs.declared.span.Bytes.{Bytes}
use Rattle.core_view.specs.declared.entry.Entry.{Entry}
use Rattle.core_view.specs.declared.operation.Operation.{Operation}
use Rattle.core_view.specs.Operations.{is_load, is_store}
use Rattle.core_view.specs.Queues.{LoadSlot, StoreSlot, loads_of, stores_of}

-- how many of each there may be
pub record Places : Type 0 where
  pub load_places : ℕ
  pub store_places : ℕ

-- beside the entries of a flight there is a place for one more of an operation, where it is a load or a store
pub record HasPlace (q : Places) (es : List Entry) (o : Operation) : Type 0 where
  pub load : is_load o ≡ true → length (loads_of es) < q.load_places
  pub store : is_store o ≡ true → length (stores_of es) < q.store_places

-- so many places for loads and for stores among the kinds of operations, and more than can be renamed for the others
abbrev pub limits_of : ℕ → ℕ → List ℕ
limits_of load_places store_places = 65 ∷ 65 ∷ 65 ∷ load_places ∷ store_places ∷ 65 ∷ []

-- the stamps of the two
abbrev pub load_stamp : LoadSlot → ℕ
load_stamp q = q.stamp

abbrev pub store_stamp : StoreSlot → ℕ
store_stamp q = q.stamp

-- the load with a stamp has read this span; None where it stops
abbrev pub with_span : ℕ → Option Span → LoadSlot → LoadSlot
with_span k span q = if q.stamp == k then record { stamp = k; span = span } else q

-- the store with a stamp has completed with these bytes; None where it stops
abbrev pub slot_with_bytes : ℕ → Option Bytes → StoreSlot → StoreSlot
slot_with_bytes k bytes q = if q.stamp == k then record { stamp = k; bytes = bytes } else q

module _ {X : Type 0} (stamp : X → ℕ) where
  -- the list without its oldest, where that has this stamp
  abbrev pub without_oldest : ℕ → List X → List X
  without_oldest k [] = []
  without_oldest k (x ∷ xs) = if stamp x == k then xs else x ∷ xs
