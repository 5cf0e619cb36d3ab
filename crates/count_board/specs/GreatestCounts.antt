-- Each word is the greatest of the opening count and what the seats raised there, and no seat has seen more.
use Rattle.std.specs.Prelude.{◌≡◌, ◌⊎◌, ℕ, ◌+◌, ◌<◌, ◌≤◌, List, [], ◌∷◌, length, slice_index}
use mathlib.Core.Option.{some}
use lib.ListN.{get_elem?}
use Rattle.atomic_table.specs.Table.{State, Me, Step}
use Rattle.count_board.specs.declared.known.Known.{Known}
use Rattle.count_board.specs.declared.known.Start.{Start}
use Rattle.count_board.specs.Counts.{greatest_at}
use Rattle.count_board.specs.Views.{spent, raise, look}

-- for how many seats the views stand
abbrev pub seat_count : List Known → ℕ
seat_count [] = 0
seat_count (v ∷ vs) = v.parts + seat_count vs

-- the greatest count that some seat raised at the context i is n
abbrev pub IsRaised : List Known → ℕ → ℕ → Type 0
IsRaised views i n = (j : ℕ) × (v : Known) × (get_elem? views j ≡ some v) × (greatest_at i v.raised ≡ n)

-- a view of no seat knows nothing, and no view has raised or seen more than the words
pub record IsWithin (words : List ℕ) (v : Known) : Type 0 where
  pub idle : v.parts ≡ 0 → (v.raised ≡ []) × (v.seen ≡ [])
  pub raised : (i : ℕ) → greatest_at i v.raised ≤ slice_index words i
  pub seen : (i : ℕ) → greatest_at i v.seen ≤ slice_index words i

-- each of eight words is at least the opening count, and is that or what some seat raised
pub record HasGreatestCounts (key : Start) (s : State (Unit {0}) Known) : Type 0 where
  pub wide : length s.words ≡ 8
  pub parts : seat_count s.views ≡ key.seats
  pub opening : (i : ℕ) → i < 8 → slice_index key.opening i ≤ slice_index s.words i
  pub reached : (i : ℕ) → i < 8 → (slice_index s.words i ≡ slice_index key.opening i) ⊎ IsRaised s.views i (slice_index s.words i)
  pub within : (j : ℕ) (v : Known) → get_elem? s.views j ≡ some v → IsWithin s.words v

-- what a seat knows, and the slots that it holds, of which there are none
abbrev pub SeatState : Type 0
SeatState = Me (Unit {0}) Known

-- the word n that was found is at least what the seat had raised or seen
abbrev pub IsAbove : ℕ → SeatState → ℕ → Type 0
IsAbove i v n = (greatest_at i v.0.raised ≤ n) × (greatest_at i v.0.seen ≤ n)

-- the seat raised the word of a context
abbrev pub RaisesWord : Step (Unit {0}) → SeatState → ℕ → SeatState → Type 0
RaisesWord s v n w = IsAbove s.word v n × (w ≡ (raise s.word s.first n v.0, v.1))

-- the seat saw the word of a context
abbrev pub SeesWord : Step (Unit {0}) → SeatState → ℕ → SeatState → Type 0
SeesWord s v n w = IsAbove s.word v n × (w ≡ (look s.word n v.0, v.1))

-- a seat arrived that stands for none
abbrev pub StandsForNone : Step (Unit {0}) → SeatState → ℕ → SeatState → Type 0
StandsForNone s v n w = w ≡ (spent, [])
