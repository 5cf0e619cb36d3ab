-- The rule of a lock: one history, in the page at home or found by the seat that holds it, of which each pass knows its own calls.
use Rattle.std.specs.Prelude.{◌≡◌, ◌≢◌, ℕ, ◌<◌, true, Option, Some, List, length, slice_index}
use mathlib.Core.Option.{some}
use lib.ListN.{get_elem?}
use Rattle.atomic_table.specs.Table.{State}
use Rattle.checkpoint.specs.MarkValue.{MarkValue}
use Rattle.checkpoint_book.specs.declared.call.Call.{Call}
use Rattle.checkpoint_book.specs.declared.known.Known.{Known}
use Rattle.checkpoint_book.specs.declared.known.Start.{Start}
use Rattle.checkpoint_book.specs.declared.page.Page.{Page}
use Rattle.checkpoint_book.specs.Among.{In}
use Rattle.checkpoint_book.specs.History.{by, own}
use Rattle.checkpoint_book.specs.Views.{PassCalls, pass_count}

-- a view agrees with the history: the calls of its passes are their own in it, each pass has this seat, and a seat that holds the page found it
pub record AgreesWith (opening : MarkValue) (history : List Call) (word holder : ℕ) (seat_of : ℕ → ℕ) (seat : ℕ) (v : Known) : Type 0 where
  pub passes : (p : PassCalls) → In v.passes p → (p.1 ≡ own p.0 history) × (seat_of p.0 ≡ seat) × (v.opening ≡ opening)
  pub found : v.holds ≡ true → (word ≢ 0) × (seat ≡ holder) × (v.found ≡ history) × (0 < length v.passes)

-- the slot is at home, and its page has this opening and history
abbrev pub IsPageHome : MarkValue → List Call → List (mathlib.Core.Option.Option (Option Page)) → Type 0
IsPageHome opening history homes = (page : Page) × (get_elem? homes 0 ≡ some (some (Some page))) × (page.history.items ≡ history) × (page.opening.value ≡ opening)

-- the pass's seat stands for it
abbrev pub HasSeat : (ℕ → ℕ) → List Known → ℕ → Type 0
HasSeat seat_of views p = (v : Known) × (calls : List Call) × (get_elem? views (seat_of p) ≡ some v) × In v.passes (p, calls)

-- all views agree with one history, each of its calls is by a pass with a seat, and its page is at home exactly where the word is 0
pub record HasOneHistory (key : Start) (s : State (Option Page) Known) : Type 0 where
  pub history : List Call
  pub holder : ℕ
  pub seat_of : ℕ → ℕ
  pub one_word : length s.words ≡ 1
  pub passes : pass_count s.views ≡ key.passes
  pub agree : (j : ℕ) (v : Known) → get_elem? s.views j ≡ some v → AgreesWith key.opening.value history (slice_index s.words 0) holder seat_of j v
  pub callers : (c : Call) → In history c → HasSeat seat_of s.views (by c)
  pub home : slice_index s.words 0 ≡ 0 → IsPageHome key.opening.value history s.homes
  pub away : slice_index s.words 0 ≢ 0 → (v : Known) × (get_elem? s.views holder ≡ some v) × (v.holds ≡ true)
