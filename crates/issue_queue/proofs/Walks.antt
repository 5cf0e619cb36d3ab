-- What walks over the places of a word keep.
use Rattle.std.proofs.Common.{◌≡◌, ℕ, ◌<◌, ◌≤◌, Bool, true, false, not, ◌&&◌, List, take, length, ◌⊎◌}
use Rattle.std.specs.Prelude.{nat_lt, slice_index}
use Rattle.core_view.specs.declared.note.EntryId.{EntryId}
use Rattle.issue_queue.specs.declared.places.Places.{Places}
use Rattle.issue_queue.specs.declared.slots.Slots.{Slots}
use Rattle.issue_queue.specs.declared.selecting.Candidate.{Candidate}
use Rattle.word_mask.specs.Mask.{has}
use Rattle.issue_queue.specs.Board.{slot, InStep}
use Rattle.issue_queue.specs.Candidates.{is_at, names_of}
use Rattle.issue_queue.specs.Entry.{Entry, is_named}
use Rattle.issue_queue.specs.Stamps.{stamp_at}

-- the places of the word that are not left have another name
pub record IsSought (b : Places) (context stamp left : ℕ) : Type 0 where
  pub taken : (p : ℕ) → has left p ≡ true → has b.valid p ≡ true
  pub others : (p : ℕ) → has (slice_index b.contexts context) p ≡ true → (has left p ≡ true) ⊎ (is_named context stamp (slot b.slots p) ≡ false)

-- those of the word that are not left are free, where they pass the test
pub record IsCut (a b : Places) (word : ℕ) (test : Entry → Bool) (left : ℕ) : Type 0 where
  pub step : InStep b
  pub slots : (p : ℕ) → has b.valid p ≡ true → slot b.slots p ≡ slot a.slots p
  pub valid : (p : ℕ) → has b.valid p ≡ (has a.valid p && not ((has word p && not (has left p)) && test (slot a.slots p)))
  pub within : (p : ℕ) → has left p ≡ true → has word p ≡ true

-- the word has the places of the first i candidates, whose names are listed
pub record AreNamed (slots : Slots) (best : List Candidate) (i word : ℕ) (names : List EntryId) : Type 0 where
  pub places : (p : ℕ) → has word p ≡ is_at (take i best) p
  pub names_are : names ≡ names_of slots (take i best)
  pub count : length names ≡ i

-- the least stamp of the places of the word that are not left
pub record IsLeast (slots : Slots) (word left least : ℕ) : Type 0 where
  pub found : (p : ℕ) × (has word p ≡ true) × (stamp_at slots p ≡ least)
  pub within : (p : ℕ) → has left p ≡ true → has word p ≡ true
  pub below : (p : ℕ) → has word p ≡ true → (has left p ≡ true) ⊎ (least ≤ stamp_at slots p)

-- those of the word that are not left and have a stamp below one
pub record IsOlder (slots : Slots) (word left older stamp : ℕ) : Type 0 where
  pub within : (p : ℕ) → has left p ≡ true → has word p ≡ true
  pub bits : (p : ℕ) → has older p ≡ ((has word p && not (has left p)) && nat_lt (stamp_at slots p) stamp)

-- the word has the contexts of the places of another that are not left, and no other
pub record AreGathered (slots : Slots) (word left contexts : ℕ) : Type 0 where
  pub within : (p : ℕ) → has left p ≡ true → has word p ≡ true
  pub known : (c : ℕ) → has contexts c ≡ true → c < 8
  pub found : (c : ℕ) → has contexts c ≡ true → (p : ℕ) × (has word p ≡ true) × ((slot slots p).context ≡ c)
  pub all : (p : ℕ) → has word p ≡ true → (has left p ≡ true) ⊎ (has contexts (slot slots p).context ≡ true)
