-- Whose a pass is, and its calls at each context.
use Rattle.std.specs.Prelude.{◌≡◌, ◌≢◌, ◌<◌, ℕ, suc, List, [], ◌∷◌}
use Rattle.join_law.specs.declared.places.Eight.{Eight}
use Rattle.join_law.specs.Eight.{place_of}
use Rattle.checkpoint.specs.MarkValue.{MarkValue}
use Rattle.origin_set.specs.OriginValue.{OriginValue}
use Rattle.checkpoint_book.specs.declared.call.Call.{Call}
use Rattle.checkpoint_book.specs.declared.lock.Lock.{Lock}
use Rattle.checkpoint_book.specs.declared.lock.Seat.{Seat}
use Rattle.checkpoint_book.specs.LockSeats.{IsSeatOf, StandsForNew, calls_of, opening_of}
use Rattle.checkpoint_book.specs.declared.book.Book.{Book}
use Rattle.checkpoint_book.specs.declared.book.Pass.{Pass}

-- a fact of each context, its lock and a seat
pub record AtEachLock (P : ℕ → Lock → Seat → Type 0) (b : Book) (s : Eight Seat) : Type 0 where
  pub at_0 : P 0 b.locks.c0 s.c0
  pub at_1 : P 1 b.locks.c1 s.c1
  pub at_2 : P 2 b.locks.c2 s.c2
  pub at_3 : P 3 b.locks.c3 s.c3
  pub at_4 : P 4 b.locks.c4 s.c4
  pub at_5 : P 5 b.locks.c5 s.c5
  pub at_6 : P 6 b.locks.c6 s.c6
  pub at_7 : P 7 b.locks.c7 s.c7

-- the pass is one of those that the book's `new` gave: it has a seat at each lock
abbrev pub IsPassOf : Book → Pass → Type 0
IsPassOf b p = AtEachLock (λ i l s. IsSeatOf l p.number s) b p.seats

-- the calls of a pass at a context
abbrev pub calls_at : ℕ → Pass → List Call
calls_at i p = calls_of (place_of p.seats i)

-- the mark that a book began with at a context
abbrev pub opening_at : ℕ → Book → MarkValue
opening_at i b = opening_of (place_of b.locks i)

-- the origin of a book's marks
abbrev pub origin_of : Book → OriginValue
origin_of b = (opening_at 0 b).origin

-- how many passes a book has
abbrev pub passes_in : Book → ℕ
passes_in b = b.passes

-- which of the passes it is
abbrev pub number_of : Pass → ℕ
number_of p = p.number

-- the pass keeps its number and its calls at the other contexts
pub record IsSameBut (i : ℕ) (old new : Pass) : Type 0 where
  pub number : new.number ≡ old.number
  pub others : (j : ℕ) → j < 8 → j ≢ i → calls_at j new ≡ calls_at j old

-- the seats stand for the passes below n, which have made no calls
abbrev pub StandForNew : Book → ℕ → Eight Seat → Type 0
StandForNew b n s = AtEachLock (λ i l s. StandsForNew l n s) b s

-- the pass has made no calls
abbrev pub HasNoCalls : Pass → Type 0
HasNoCalls p = (i : ℕ) → i < 8 → calls_at i p ≡ []

-- the pass with this number, as `new` gives it
pub record IsNewPass (b : Book) (n : ℕ) (p : Pass) : Type 0 where
  pub own : IsPassOf b p
  pub number : p.number ≡ n
  pub calls : HasNoCalls p

-- the passes with the numbers below n down to m, as `new` gives them
abbrev pub AreNewPasses : Book → ℕ → ℕ → List Pass → Type 0
AreNewPasses b n m [] = n ≡ m
AreNewPasses b n m (p ∷ ps) = (k : ℕ) × (n ≡ suc k) × IsNewPass b k p × AreNewPasses b k m ps
