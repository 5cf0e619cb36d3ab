-- Whose a seat is, and what it raised and has seen.
use Rattle.std.specs.Prelude.{◌≡◌, ℕ, List, [], ◌∷◌}
use Rattle.count_board.specs.declared.known.Known.{Known}
use Rattle.count_board.specs.declared.board.Board.{Board}
use Rattle.count_board.specs.declared.board.Seat.{Seat}
use Rattle.count_board.specs.Counts.{greatest_at}
use Rattle.count_board.specs.Views.{spent, both}

-- the counts that a board was made with
abbrev pub opening_of : Board → List ℕ
opening_of b = b.table.shared.key.opening

-- how many seats a board has
abbrev pub seats_of : Board → ℕ
seats_of b = b.seats

-- what a seat knows
abbrev pub known : Seat → Known
known s = s.place.me.0

-- the greatest count that the seat raised at the context i, 0 where it raised none
abbrev pub raised_at : ℕ → Seat → ℕ
raised_at i s = greatest_at i (known s).raised

-- the greatest count that the seat has seen at the context i, 0 where it has seen none
abbrev pub seen_at : ℕ → Seat → ℕ
seen_at i s = greatest_at i (known s).seen

-- the seat is one of those that the board's `new` gave
pub record IsSeatOf (b : Board) (s : Seat) : Type 0 where
  pub board : s.place.table_id ≡ b.table.shared.table_id
  pub part : (known s).parts ≡ 1
  pub empty : s.place.me.1 ≡ []

-- the seat has raised and seen nothing
abbrev pub IsNew : Seat → Type 0
IsNew s = (i : ℕ) → (raised_at i s ≡ 0) × (seen_at i s ≡ 0)

-- what all of them know
abbrev pub gathered : List Seat → Known
gathered [] = spent
gathered (s ∷ ss) = both (known s) (gathered ss)
