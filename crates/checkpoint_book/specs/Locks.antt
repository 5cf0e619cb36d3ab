-- The eight locks of a book: for how many passes they are, and which marks they began with.
use Rattle.std.specs.Prelude.{◌≡◌, ◌<◌, ℕ}
use Rattle.checkpoint.specs.Aligned.{IsMarkOf}
use Rattle.join_law.specs.declared.places.Eight.{Eight}
use Rattle.join_law.specs.Eight.{place_of}
use Rattle.checkpoint_book.specs.declared.lock.Lock.{Lock}
use Rattle.checkpoint_book.specs.LockSeats.{lock_passes, opening_of}

-- each lock is for so many passes
abbrev pub HavePasses : ℕ → Eight Lock → Type 0
HavePasses n locks = (i : ℕ) → i < 8 → lock_passes (place_of locks i) ≡ n

-- the locks began with marks of one origin, each of its context
abbrev pub AreAligned : Eight Lock → Type 0
AreAligned locks = (i : ℕ) → i < 8 → IsMarkOf (opening_of locks.c0).origin i (opening_of (place_of locks i))
