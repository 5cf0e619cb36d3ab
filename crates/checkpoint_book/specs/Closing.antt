-- What a book leaves, of which all passes are handed back.
use Rattle.std.specs.Prelude.{◌≡◌, ◌<◌, ℕ, true, List, All, Any, map}
use Rattle.join_law.specs.declared.places.Eight.{Eight}
use Rattle.join_law.specs.Eight.{place_of}
use Rattle.checkpoint.specs.MarkValue.{MarkValue}
use Rattle.checkpoint.specs.Aligned.{IsMarkOf}
use Rattle.checkpoint.specs.Further.{MarkKin}
use Rattle.checkpoint_book.specs.declared.call.Call.{Call}
use Rattle.checkpoint_book.specs.declared.lock.Seat.{Seat}
use Rattle.checkpoint_book.specs.Among.{In}
use Rattle.checkpoint_book.specs.History.{is_legal, best, own, by}
use Rattle.checkpoint_book.specs.Views.{PassCalls}
use Rattle.checkpoint_book.specs.LockSeats.{StandsFor, StandsForAll, seat_passes}
use Rattle.checkpoint_book.specs.declared.book.Book.{Book}
use Rattle.checkpoint_book.specs.declared.book.Pass.{Pass}
use Rattle.checkpoint_book.specs.declared.book.Closed.{Closed}
use Rattle.checkpoint_book.specs.Passes.{AtEachLock, calls_at, opening_at, origin_of}

-- passes and their calls at a context
abbrev pub pass_calls_at : ℕ → List Pass → List PassCalls
pass_calls_at i = map (λ p. (p.number, calls_at i p))

-- the seats stand for these passes
abbrev pub StandForPasses : Book → List Pass → Eight Seat → Type 0
StandForPasses b passes s = AtEachLock (λ i l s. StandsFor l (pass_calls_at i passes) s) b s

-- the seats stand for all passes of the book
abbrev pub StandForAll : Book → Eight Seat → Type 0
StandForAll b s = AtEachLock (λ i l s. StandsForAll l s) b s

-- what a lock leaves, of which a seat stood for these passes: a legal history with these passes' own calls and no others, and the best mark
pub record IsClosedLock (opening : MarkValue) (passes : List PassCalls) (mark : MarkValue) (history : List Call) : Type 0 where
  pub legal : is_legal opening.count history ≡ true
  pub best : mark.count ≡ best opening.count history
  pub kin : MarkKin opening mark
  pub own : (p : PassCalls) → In passes p → p.1 ≡ own p.0 history
  pub no_others : (c : Call) → In history c → (calls : List Call) × In passes (by c, calls)

-- each lock leaves this of the seat that stood for all passes
abbrev pub AreClosedLocks : Book → Eight Seat → Closed → Type 0
AreClosedLocks b s c = (i : ℕ) → i < 8 → IsClosedLock (opening_at i b) (seat_passes (place_of s i)) (place_of c.marks i) (place_of c.histories i).items

-- the history at a context is legal, each pass's own calls in it are that pass's list, and it has no others; the mark is of the book's origin and the context, at the best of the opening count and the merges
pub record IsClosedAt (b : Book) (i : ℕ) (passes : List Pass) (mark : MarkValue) (history : List Call) : Type 0 where
  pub legal : is_legal (opening_at i b).count history ≡ true
  pub own : All (λ p. own p.number history ≡ calls_at i p) passes
  pub no_others : All (λ c. Any (λ p. by c ≡ p.number) passes) history
  pub best : mark.count ≡ best (opening_at i b).count history
  pub aligned : IsMarkOf (origin_of b) i mark

-- it is so at each context
abbrev pub IsClosed : Book → List Pass → Closed → Type 0
IsClosed b passes c = (i : ℕ) → i < 8 → IsClosedAt b i passes (place_of c.marks i) (place_of c.histories i).items
