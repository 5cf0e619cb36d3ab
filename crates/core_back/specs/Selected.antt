-- What a selection chooses of a view.
use Rattle.std.specs.Prelude.{◌≡◌, ℕ, ◌<◌, ◌≤◌, Bool, true, false, ◌&&◌, nat_lt, is_some, List, length, map, All, AllPairs, Contains}
use Rattle.issue_queue.specs.declared.entry.QueueView.{QueueView}
use Rattle.core_view.specs.declared.note.EntryId.{EntryId}
use Rattle.core_view.specs.Flight.{is_queued}
use Rattle.core_view.specs.View.{Context, View, entry_at}
use Rattle.lawful_cycle.specs.Views.{context_in, is_id}
use Rattle.lawful_cycle.specs.Issue.{first_value, second_value, Place, entry_in, id_in, IsReadyIn, IsNotAfter}

-- queued, with the values of its sources: all that makes an entry ready, but that a load may have to wait for an older store
abbrev pub is_supplied_at : Context → ℕ → Bool
is_supplied_at x i = nat_lt i (length x.flight) && is_queued (entry_at x i).stage && (is_some (first_value x i) && is_some (second_value x i))

abbrev pub IsSuppliedPlace : View → Place → Type 0
IsSuppliedPlace v p = (p.context < 8) × (is_supplied_at (context_in v p.context) p.place ≡ true)

-- of the places that count as ready, none twice, the first by (key, stamp), as many as the width allows or all
pub record IsChoiceOf (Ready : Place → Type 0) (key : QueueView → ℕ) (width : ℕ) (v : View) (chosen : List Place) : Type 0 where
  pub ready : All Ready chosen
  pub once : AllPairs (λ p q. is_id p.context (entry_in v p).stamp (id_in v q) ≡ false) chosen
  pub in_order : AllPairs (IsNotAfter key v) chosen
  pub most : length chosen ≤ width
  pub used_up : (p : Place) → Ready p → ¬ Contains chosen p → length chosen ≡ width
  pub first : (p : Place) → Ready p → ¬ Contains chosen p → All (λ q. IsNotAfter key v q p) chosen

-- the names of such a choice
pub record IsChosenOf (Ready : Place → Type 0) (key : QueueView → ℕ) (width : ℕ) (v : View) (names : List EntryId) : Type 0 where
  pub chosen : List Place
  pub names_are : names ≡ map (id_in v) chosen
  pub choice : IsChoiceOf Ready key width v chosen

-- a choice of what is ready
abbrev pub IsChoice : (QueueView → ℕ) → ℕ → View → List Place → Type 0
IsChoice key width v = IsChoiceOf (IsReadyIn v) key width v

abbrev pub IsChosen : (QueueView → ℕ) → ℕ → View → List EntryId → Type 0
IsChosen key width v = IsChosenOf (IsReadyIn v) key width v
