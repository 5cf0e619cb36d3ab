-- Sixty-four places, and words with a bit for each.
use Rattle.std.specs.Prelude.{◌≡◌, ℕ, ◌<◌, ◌≤◌, Bool, true, false, not, List, map, filter, length, ◌&&◌, ◌==◌, slice_index, AllPairs}
use Rattle.std.specs.List.{list_any}
use Rattle.issue_queue.specs.declared.places.Places.{Places}
use Rattle.issue_queue.specs.declared.arrivals.Arrivals.{Arrivals}
use Rattle.issue_queue.specs.declared.slots.Slots.{Slots}
use Rattle.word_mask.specs.Mask.{has}
use Rattle.issue_queue.specs.Arrivals.{arrived}
use Rattle.issue_queue.specs.Entries.{entry_at}
use Rattle.issue_queue.specs.Views.{as_entry}
use Rattle.issue_queue.specs.Entry.{Entry, AreDistinct, is_supplied, waits_for_two}

-- the place stands in the word of a register
abbrev pub is_waiter : List ℕ → ℕ → ℕ → Bool
is_waiter waiters place register = has (slice_index waiters register) place

-- the entry, waiting for those registers alone whose words have the place
abbrev pub narrowed : List ℕ → ℕ → Entry → Entry
narrowed waiters place e = record e { waits = filter (is_waiter waiters place) e.waits }

-- the entry of a place
abbrev pub slot : Slots → ℕ → Entry
slot slots place = narrowed slots.waiters place (as_entry (has slots.held place) (entry_at slots.entries place))

-- one of its sources is this register
abbrev pub waits_for : ℕ → Entry → Bool
waits_for register e = list_any (λ r. r == register) e.waits

abbrev pub is_of : ℕ → Entry → Bool
is_of context e = e.context == context

-- the word has a bit for each place that is taken by an entry that passes the test, and no other
abbrev pub IsMask : (Entry → Bool) → ℕ → Slots → ℕ → Type 0
IsMask test valid slots word = (p : ℕ) → has word p ≡ (has valid p && test (slot slots p))

-- no free place has the flag
abbrev pub IsOffWhereFree : (Entry → Bool) → ℕ → Slots → Type 0
IsOffWhereFree flag valid slots = (p : ℕ) → has valid p ≡ false → flag (slot slots p) ≡ false

-- the entry, neither guessed nor a load where told so
abbrev pub unflagged : Bool → Entry → Entry
unflagged flag e = record e { guessed = e.guessed && not flag; load = e.load && not flag }

-- each word is the mask of its test, and no free place is held, guessed or a load
pub record InStep (b : Places) : Type 0 where
  pub supplied : IsMask is_supplied b.valid b.slots b.supplied
  pub two : IsMask waits_for_two b.valid b.slots b.two
  pub contexts : (c : ℕ) → c < 8 → IsMask (is_of c) b.valid b.slots (slice_index b.contexts c)
  pub waiters : (r : ℕ) → r < 480 → IsMask (waits_for r) b.valid b.slots (slice_index b.slots.waiters r)
  pub let_go : IsOffWhereFree (λ e. e.held) b.valid b.slots
  pub unguessed : IsOffWhereFree (λ e. e.guessed) b.valid b.slots
  pub no_load : IsOffWhereFree (λ e. e.load) b.valid b.slots

-- the entries of these places
abbrev pub listed : Slots → List ℕ → List Entry
listed slots order = map (slot slots) order

-- the places that are taken, in the order in which entries came to them
abbrev pub order_of : Places → Arrivals → List ℕ
order_of b a = filter (λ p. has b.valid p) (arrived a.last.value)

-- the entries in the order in which they were put
abbrev pub entries_of : Places → Arrivals → List Entry
entries_of b a = listed b.slots (order_of b a)

-- there are no more entries than the capacity; they have different names
pub record IsKept (capacity : ℕ) (b : Places) (a : Arrivals) : Type 0 where
  pub bounded : capacity ≤ 64
  pub within : length (order_of b a) ≤ capacity
  pub in_step : InStep b
  pub taken : (p : ℕ) → has b.valid p ≡ true → p < 64
  pub distinct : AllPairs AreDistinct (entries_of b a)
