-- For which passes a seat of a lock stands, and whether it holds the page.
use Rattle.std.specs.Prelude.{◌≡◌, ℕ, None, List, [], ◌∷◌, length}
use Rattle.checkpoint.specs.MarkValue.{MarkValue}
use Rattle.checkpoint_book.specs.declared.call.Call.{Call}
use Rattle.checkpoint_book.specs.declared.lock.Lock.{Lock}
use Rattle.checkpoint_book.specs.declared.lock.Seat.{Seat}
use Rattle.checkpoint_book.specs.Views.{PassCalls, idle_view, holder_view, passes_below}

-- the mark that a lock began with
abbrev pub opening_of : Lock → MarkValue
opening_of l = l.table.shared.key.opening.value

-- for how many passes a lock is
abbrev pub lock_passes : Lock → ℕ
lock_passes l = l.table.shared.key.passes

-- the passes that a seat stands for, with their calls
abbrev pub seat_passes : Seat → List PassCalls
seat_passes s = s.place.me.0.passes

-- the calls of the first pass
abbrev pub first_calls : List PassCalls → List Call
first_calls [] = []
first_calls (p ∷ ps) = p.1

-- the calls of the pass that a seat stands for
abbrev pub calls_of : Seat → List Call
calls_of s = first_calls (seat_passes s)

-- the history that a seat found in the page that it holds
abbrev pub found_history : Seat → List Call
found_history s = s.place.me.0.found

-- the seat is the lock's and stands for these passes
pub record StandsFor (l : Lock) (passes : List PassCalls) (s : Seat) : Type 0 where
  pub lock : s.place.table_id ≡ l.table.shared.table_id
  pub state : s.place.me ≡ (idle_view s.place.me.0.opening passes, [])

-- the seat stands for all passes of the lock
pub record StandsForAll (l : Lock) (s : Seat) : Type 0 where
  pub own : StandsFor l (seat_passes s) s
  pub all : length (seat_passes s) ≡ lock_passes l

-- the seat stands for one pass
pub record IsSeatOf (l : Lock) (pass : ℕ) (s : Seat) : Type 0 where
  pub lock : s.place.table_id ≡ l.table.shared.table_id
  pub state : s.place.me ≡ (idle_view (opening_of l) ((pass, calls_of s) ∷ []), [])

-- the seat stands for the passes below n, which have made no calls
pub record StandsForNew (l : Lock) (n : ℕ) (s : Seat) : Type 0 where
  pub lock : s.place.table_id ≡ l.table.shared.table_id
  pub state : s.place.me ≡ (idle_view (opening_of l) (passes_below n), [])

-- the seat stands for one pass and holds the slot, from which the page was taken
pub record IsHolder (l : Lock) (pass : ℕ) (s : Seat) : Type 0 where
  pub lock : s.place.table_id ≡ l.table.shared.table_id
  pub state : s.place.me ≡ (holder_view (found_history s) (idle_view (opening_of l) ((pass, calls_of s) ∷ [])), (0, None) ∷ [])
