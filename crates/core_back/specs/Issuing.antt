-- A cycle's issue, part of the way: what was selected, and how much of it has issued.
use Rattle.std.specs.Prelude.{◌≡◌, ℕ, ◌<◌, ◌≤◌, Bool, false, List, ◌++◌, length, map, get_or, All, AllPairs, Contains, Some}
use Rattle.issue_queue.specs.declared.entry.QueueView.{QueueView}
use Rattle.data_tags.specs.declared.delay.Kind.{Kind}
use Rattle.data_tags.specs.declared.delay.Lag.{Lag}
use Rattle.core_view.specs.declared.entry.Stage.TheVariants.{Queued}
use Rattle.core_view.specs.declared.entry.Entry.{Entry}
use Rattle.core_view.specs.declared.note.EntryId.{EntryId}
use Rattle.core_view.specs.declared.note.Issue.{Issue}
use Rattle.core_view.specs.Events.{with_flight}
use Rattle.core_view.specs.View.{no_entry}
use Rattle.lawful_cycle.specs.Views.{ChangesEach, is_id}
use Rattle.lawful_cycle.specs.Issue.{Place, entry_in, id_in, IsReadyIn, IsNotAfter, issue_of, issued_from, no_issue, no_place, HasLag}
use Rattle.core_back.specs.Machine.{Machine, context_at}
use Rattle.core_back.specs.Selected.{IsSuppliedPlace, IsChosen}

-- what issued of these entries was queued
abbrev pub WereQueued : ℕ → List Issue → List Entry → Type 0
WereQueued c issues es = (k : ℕ) (n : Issue) → k < length es → issue_of c (get_or es k no_entry) issues ≡ Some n → (get_or es k no_entry).stage ≡ Queued

-- of these contexts these issued; what was selected first is what issued, then what is left
pub record HaveIssued (delays : ℕ → Kind → ℕ → Lag → Bool) (chosen : List Place) (m n : Machine) (issues : List Issue) : Type 0 where
  pub contexts : ChangesEach (λ c x y. y ≡ with_flight x (issued_from m.view.cycle c issues x 0 x.flight)) m.view n.view
  pub queued : (c : ℕ) → c < 8 → WereQueued c issues (context_at m c).flight
  pub names : map (λ n. n.entry) issues ++ n.names ≡ map (id_in m.view) chosen
  pub lags : (j : ℕ) → j < length issues → HasLag delays m.view (get_or chosen j no_place) (get_or issues j no_issue)

-- some of what was chosen has issued, all of it ready
pub record IsIssuing (key : QueueView → ℕ) (delays : ℕ → Kind → ℕ → Lag → Bool) (width : ℕ) (m n : Machine) (issues : List Issue) : Type 0 where
  pub names : List EntryId
  pub choice : IsChosen key width m.view names
  pub issued : HaveIssued delays choice.chosen m n issues

-- some of what was selected unasked has issued, and was ready: no ready entry was passed over for what comes after it
pub record IsIssuingAsked (key : QueueView → ℕ) (delays : ℕ → Kind → ℕ → Lag → Bool) (width : ℕ) (m n : Machine) (issues : List Issue) : Type 0 where
  pub chosen : List Place
  pub issued : HaveIssued delays chosen m n issues
  pub supplied : All (IsSuppliedPlace m.view) chosen
  pub once : AllPairs (λ p q. is_id p.context (entry_in m.view p).stamp (id_in m.view q) ≡ false) chosen
  pub in_order : AllPairs (IsNotAfter key m.view) chosen
  pub most : length chosen ≤ width
  pub used_up : (p : Place) → IsReadyIn m.view p → ¬ Contains chosen p → length chosen ≡ width
  pub first : (p : Place) → IsReadyIn m.view p → ¬ Contains chosen p → All (λ q. IsNotAfter key m.view q p) chosen
  pub ready : (j : ℕ) → j < length issues → IsReadyIn m.view (get_or chosen j no_place)
