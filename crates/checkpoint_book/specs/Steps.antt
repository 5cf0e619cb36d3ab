-- What each step on a lock changes of the seat that makes it.
use Rattle.std.specs.Prelude.{◌≡◌, ◌≢◌, ℕ, Option, Some, [], ◌∷◌}
use Rattle.atomic_table.specs.Table.{Me, Step}
use Rattle.checkpoint_book.specs.declared.known.Known.{Known}
use Rattle.checkpoint_book.specs.declared.page.Page.{Page}
use Rattle.checkpoint_book.specs.Among.{In}
use Rattle.checkpoint_book.specs.History.{own}
use Rattle.checkpoint_book.specs.Views.{PassCalls, spent_view, holder_view, released_view}

-- what a seat knows, and the slots that it holds
abbrev pub SeatState : Type 0
SeatState = Me (Option Page) Known

-- the seat then holds the page, in which each of its passes has just the calls that it knows
abbrev pub HoldsPage : SeatState → SeatState → Page → Type 0
HoldsPage v w page = (w ≡ (holder_view page.history.items v.0, (0, Some page) ∷ [])) × (page.opening.value ≡ v.0.opening) × ((p : PassCalls) → In v.0.passes p → p.1 ≡ own p.0 page.history.items)

-- where the word was 0 the seat takes the page, and else nothing changes
abbrev pub TakesPage : Step (Option Page) → SeatState → ℕ → SeatState → Type 0
TakesPage s v n w = (n ≡ 0 → (page : Page) × HoldsPage v w page) × (n ≢ 0 → w ≡ v)

-- the seat gives the page back, and each of its passes knows its own calls in it
abbrev pub GivesPage : Step (Option Page) → SeatState → ℕ → SeatState → Type 0
GivesPage s v n w = (page : Page) → v.1 ≡ (0, Some page) ∷ [] → w ≡ (released_view page.history.items v.0, [])

-- a new seat stands for no pass
abbrev pub StandsForNone : Step (Option Page) → SeatState → ℕ → SeatState → Type 0
StandsForNone s v n w = w ≡ (spent_view, [])
