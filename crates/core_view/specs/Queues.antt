-- What the load and store queues of a context hold of its flight, oldest first, and what these say by stamps.
use Rattle.std.specs.Prelude.{◌≡◌, ℕ, Bool, true, false, ◌&&◌, nat_lt, List, [], ◌∷◌, if◌then◌else◌, Option, Some, None, option_map, filter, filter_map, find}
use Rattle.std.specs.Option.{option_or}
use Rattle.core_view.specs.declared.span.Span.{Span}
use Rattle.core_view.specs.declared.span.Bytes.{Bytes}
use Rattle.core_view.specs.declared.entry.Stage.{Stage}
use Rattle.core_view.specs.declared.entry.Stage.TheVariants.{Fetched, Queued, Issued, Done}
use Rattle.core_view.specs.declared.entry.Entry.{Entry}
use Rattle.core_view.specs.Spans.{contains, shares, number_in}
use Rattle.core_view.specs.Operations.{is_load, is_store}
use Rattle.core_view.specs.Flight.{bytes_done, span_read, touches}
use Rattle.core_view.specs.Loads.{passing, byte_from, is_clear_of}

-- ---- what they hold

-- places are held from renaming on
abbrev pub is_renamed : Stage → Bool
is_renamed Fetched = false
is_renamed Queued = true
is_renamed (Issued execution) = true
is_renamed (Done execution) = true

-- all of these hold their places
abbrev pub AllRenamed : List Entry → Type 0
AllRenamed [] = Unit {0}
AllRenamed (e ∷ es) = (is_renamed e.stage ≡ true) × AllRenamed es

-- a store: its bytes, once it has completed without a stop
pub record StoreSlot : Type 0 where
  pub stamp : ℕ
  pub bytes : Option Bytes

-- a load: the span that it read, from its issue on, unless it stops
pub record LoadSlot : Type 0 where
  pub stamp : ℕ
  pub span : Option Span

abbrev pub store_slot : Entry → Option StoreSlot
store_slot e = if is_store e.operation && is_renamed e.stage then Some (record { stamp = e.stamp; bytes = bytes_done e.stage }) else None

abbrev pub load_slot : Entry → Option LoadSlot
load_slot e = if is_load e.operation && is_renamed e.stage then Some (record { stamp = e.stamp; span = span_read e.stage }) else None

abbrev pub stores_of : List Entry → List StoreSlot
stores_of es = filter_map store_slot es

abbrev pub loads_of : List Entry → List LoadSlot
loads_of es = filter_map load_slot es

-- ---- what a load sees

-- the bytes of a store that is older than a stamp, once it has completed without a stop
abbrev pub bytes_before : ℕ → StoreSlot → Option Bytes
bytes_before k q = if nat_lt q.stamp k then q.bytes else None

-- the newest of these that passes a test
abbrev pub newest_in : (Bytes → Bool) → List StoreSlot → ℕ → Option Bytes
newest_in test [] k = None
newest_in test (q ∷ qs) k = option_or (newest_in test qs k) (passing test (bytes_before k q))

-- the byte at an address: that of the newest such store that covers it, else memory's
abbrev pub byte_seen_in : (ℕ → ℕ) → List StoreSlot → ℕ → ℕ → ℕ
byte_seen_in memory qs k x = byte_from memory (newest_in (λ b. contains b.span x) qs k) x

-- the number that these bytes spell at a span
abbrev pub value_seen_in : (ℕ → ℕ) → List StoreSlot → ℕ → Span → ℕ
value_seen_in memory qs k s = number_in (byte_seen_in memory qs k) s

-- a load of a span is clear: no such store shares a byte with it, or the newest that does covers all of it
abbrev pub is_clear_in : List StoreSlot → ℕ → Span → Bool
is_clear_in qs k s = is_clear_of (newest_in (λ b. shares b.span s) qs k) s

-- ---- conflicts

-- the stamp of the oldest load younger than a stamp that shares a byte with a store
abbrev pub conflict_in : List LoadSlot → ℕ → Option Bytes → Option ℕ
conflict_in qs k b = option_map (λ q. q.stamp) (find (λ q. nat_lt k q.stamp && touches b q.span) qs)

-- the stamp of the oldest of these entries that is an issued load and shares a byte with a store
abbrev pub conflict_of : List Entry → Option Bytes → Option ℕ
conflict_of es b = option_map (λ e. e.stamp) (find (λ e. touches b (span_read e.stage)) es)

-- ---- entries by stamps

abbrev pub older : ℕ → List Entry → List Entry
older k es = filter (λ e. nat_lt e.stamp k) es

abbrev pub younger : ℕ → List Entry → List Entry
younger k es = filter (λ e. nat_lt k e.stamp) es

-- what is left once all from a stamp on are dropped, if there is one
abbrev pub cut_from : Option ℕ → List Entry → List Entry
cut_from None es = es
cut_from (Some k) es = older k es
